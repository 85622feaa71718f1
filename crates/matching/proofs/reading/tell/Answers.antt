use Rattle.std.proofs.Common.{sym}
use Rattle.std.proofs.lemmas.List.{length-map}
use Rattle.matching.proofs.Telling.{alive, told_none, told_short, told_all}
use Rattle.matching.proofs.reading.tell.Goals as goal

pub returns-then-not-can_finish : goal.returns-then-not-can_finish
returns-then-not-can_finish g c = told_none c.requires.table (length-map c.args.letters.now g.K.Kind.coded) (sym c.if-not-can_finish.ensures) c.args.turns.now

pub walk-count-requires-clause-alive : goal.walk-count-requires-clause-alive
walk-count-requires-clause-alive g c = alive c.requires.table (sym c.if-not-can_finish.ensures)

pub returns-then-turns-count : goal.returns-then-turns-count
returns-then-turns-count g c =
    told_short c.requires.table (sym c.if-not-can_finish.ensures) c.walk-count.result _ c.walk-count.ensures c.args.turns.now c.if-turns-count.true

pub walk-requires-clause-alive : goal.walk-requires-clause-alive
walk-requires-clause-alive g c = alive c.requires.table (sym c.if-not-can_finish.ensures)

pub returns : goal.returns
returns g c =
    told_all c.requires.table (sym c.if-not-can_finish.ensures) c.walk-count.result _ c.walk-count.ensures c.args.turns.now c.if-turns-count.false c.walk.result c.walk.new.turns c.walk.ensures
