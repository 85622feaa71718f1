use Rattle.std.proofs.Common.{◌≡◌, map, drop}
use Rattle.expression.specs.Layouts.{expression_of}
use Rattle.expression.specs.Places.{finishes}
use Rattle.containment.specs.Reaching.{some_finish}
use Rattle.containment.proofs.word.is_word.Given as goal

abbrev pub invariant-loop-letter : goal.invariant-loop-letter
invariant-loop-letter g l =
    finishes (expression_of l.layout) (map g.K.Kind.coded l.word) 0
    ≡ some_finish (expression_of l.layout) l.set (drop l.letter-index (map g.K.Kind.coded l.word))
