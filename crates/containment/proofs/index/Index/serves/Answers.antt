use Rattle.std.proofs.Common.{sym, subst, rules, arith}
use Rattle.containment.specs.Format.{rows_of}
use Rattle.containment.proofs.Indexing.{known}
use Rattle.containment.proofs.Serving.{Looking, look_first, look_found, look_next, look_none}
use Rattle.containment.proofs.index.Index.serves.Goals as goal

pub loop-n-init : goal.loop-n-init
loop-n-init c =
    let x = c.args.self.now in
    subst (Looking (rows_of x.numbers.now) c.args.follow.now c.args.codes.now c.args.code c.args.f) (sym c.from-n.ensures)
    (look_first (rows_of x.numbers.now) c.args.follow.now c.args.codes.now c.args.code c.args.f _ ((known x).linked.first c.args.f c.requires))

pub row-requires : goal.row-requires
row-requires c = omega (arith, (known c.args.self.now).counted)

pub returns-then-all_step : goal.returns-then-all_step
returns-then-all_step c =
    let x = c.args.self.now in
    look_found (rows_of x.numbers.now) c.args.follow.now c.args.codes.now c.args.code c.args.f c.loop-n.n c.loop-n.invariant (omega (arith, (known x).counted))
    c.row.result.set.now c.row.ensures.set c.if-all_step.ensures

pub offset_bounds-self-n : goal.offset_bounds-self-n
offset_bounds-self-n c = let few = (known c.args.self.now).few in search rules

pub bounds-self-n : goal.bounds-self-n
bounds-self-n c = omega (arith, (known c.args.self.now).few)

pub loop-n-smaller : goal.loop-n-smaller
loop-n-smaller c =
    let k = known c.args.self.now in
    let x = k.linked.next c.loop-n.n (omega arith) (omega (arith, k.counted)) in
    omega (arith, x.low, c.from-n-in-loop-n.ensures)

pub loop-n-preserved : goal.loop-n-preserved
loop-n-preserved c =
    let x = c.args.self.now in
    let k = known x in
    subst (Looking (rows_of x.numbers.now) c.args.follow.now c.args.codes.now c.args.code c.args.f) (sym c.from-n-in-loop-n.ensures)
    (
    look_next (rows_of x.numbers.now) c.args.follow.now c.args.codes.now c.args.code c.args.f c.loop-n.n c.loop-n.invariant (omega (arith, k.counted))
    c.row.result.set.now c.row.ensures.set c.if-all_step.ensures _ (k.linked.next c.loop-n.n (omega arith) (omega (arith, k.counted)))
    )

pub returns : goal.returns
returns c =
    let x = c.args.self.now in
    look_none (rows_of x.numbers.now) c.args.follow.now c.args.codes.now c.args.code c.args.f c.loop-n.n c.loop-n.invariant
    (omega (arith, (known x).counted, c.loop-n-test.false))
