use Rattle.std.proofs.Common.{arith}
use Rattle.containment.specs.Format.{rows_of}
use Rattle.containment.proofs.Indexing.{known, at_start, start_in, set_read, set_low}
use Rattle.containment.proofs.index.Index.row.Goals as goal

pub bounds-self-start : goal.bounds-self-start
bounds-self-start c =
    let x = c.args.self.now in
    let k = known x in
    let h = at_start (rows_of x.numbers.now) x.numbers.now x.starts k.listed k.marked c.args.n c.requires c.from-start.result c.from-start.ensures in
    omega (arith, h.room)

pub bounds-self-start-2 : goal.bounds-self-start-2
bounds-self-start-2 c =
    let x = c.args.self.now in
    let k = known x in
    start_in (rows_of x.numbers.now) x.numbers.now x.starts k.listed k.marked c.args.n c.requires c.from-start.result c.from-start.ensures

pub slice_bounds-result-end : goal.slice_bounds-result-end
slice_bounds-result-end c =
    let x = c.args.self.now in
    let k = known x in
    let h = at_start (rows_of x.numbers.now) x.numbers.now x.starts k.listed k.marked c.args.n c.requires c.from-start.result c.from-start.ensures in
    omega (arith, h.room, h.size, c.from-size.ensures)

pub returns-clause-place : goal.returns-clause-place
returns-clause-place c =
    let x = c.args.self.now in
    let k = known x in
    (at_start (rows_of x.numbers.now) x.numbers.now x.starts k.listed k.marked c.args.n c.requires c.from-start.result c.from-start.ensures).place

pub returns-clause-set : goal.returns-clause-set
returns-clause-set c =
    let x = c.args.self.now in
    let k = known x in
    set_read (rows_of x.numbers.now) x.numbers.now x.starts k.listed k.marked c.args.n c.requires c.from-start.result c.from-start.ensures c.from-size.result c.from-size.ensures

pub returns-clause-low : goal.returns-clause-low
returns-clause-low c =
    let x = c.args.self.now in
    let k = known x in
    set_low (rows_of x.numbers.now) x.numbers.now x.starts k.listed k.marked c.args.n c.requires c.from-start.result c.from-start.ensures c.from-size.result c.from-size.ensures
