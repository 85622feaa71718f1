use Rattle.std.proofs.Common.{◌+◌, set as put, subst, sym, arith}
use Rattle.containment.specs.Format.{rows_of}
use Rattle.containment.proofs.Indexing.{Noted, noted_row, noted_more, noted_all}
use Rattle.containment.proofs.index.note_starts.Goals as goal

pub bounds-numbers-start : goal.bounds-numbers-start
bounds-numbers-start c =
    let x = noted_row (rows_of c.args.numbers.now) c.args.numbers.now c.loop-start.starts c.loop-start.count c.loop-start.start c.loop-start.invariant c.loop-start-test.true in
    omega (arith, x.room)

pub loop-start-preserved : goal.loop-start-preserved
loop-start-preserved c =
    subst (λ k. Noted (rows_of c.args.numbers.now) c.args.numbers.now (put c.loop-start.starts c.loop-start.count c.loop-start.start) (c.loop-start.count + 1) (c.loop-start.start + (2 + k))) (sym c.from.ensures)
    (
    noted_more (rows_of c.args.numbers.now) c.args.numbers.now c.loop-start.starts c.loop-start.count c.loop-start.start c.loop-start.invariant c.requires.short
    c.loop-start-test.true
    )

pub returns : goal.returns
returns c =
    let x = noted_all (rows_of c.args.numbers.now) c.args.numbers.now c.loop-start.starts c.loop-start.count c.loop-start.start c.loop-start.invariant c.requires.short c.loop-start-test.false in
    record { count = x.0; few = x.1; starts = x.2 }
