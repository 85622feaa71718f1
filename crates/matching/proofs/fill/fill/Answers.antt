use Rattle.std.proofs.Common.{◌∙◌, arith}
use Rattle.matching.specs.Holding.{whole}
use Rattle.matching.proofs.Filling.{filled_start, filled_next, filled_all}
use Rattle.matching.proofs.fill.fill.Goals as goal

pub loop-t-init : goal.loop-t-init
loop-t-init g c = record {
  from_first = cc;
  filled =
      filled_start g.K.Kind.coded (whole c.args.layout.now) c.row_width-width.result c.row_width-width.ensures.is c.args.letters.now c.args.work.now c.requires.room
      _ c.end_row.new.bytes (cc) c.end_row.auto.bytes c.end_row.ensures;
}

pub loop-t-preserved : goal.loop-t-preserved
loop-t-preserved g c =
    let st = c.in-Some.ensures.steps in
    let inv = c.loop-t.invariant in
    record {
      from_first = st.0 ∙ inv.from_first;
      filled =
          filled_next g.K.Kind.coded (whole c.args.layout.now) c.row_width-width.result c.row_width-width.ensures.is c.args.letters.now c.args.work.now c.requires.room
          inv.filled _ c.in-Some.letter.now st.1.0 c.in-Some.t (let n = st.1.1 in let z = inv.from_first in omega arith) c.code.ensures c.next_row.auto.bytes c.next_row.ensures;
    }

pub returns : goal.returns
returns g c =
    filled_all g.K.Kind.coded (whole c.args.layout.now) c.row_width-width.result c.row_width-width.ensures.is c.args.letters.now c.args.work.now c.requires.room
    c.loop-t.invariant.filled c.in-None.ensures.steps.1.0
