use Rattle.std.proofs.Common.{ℕ, List, filter_map}
use Rattle.expression.specs.Following.{left}
use Rattle.expression.specs.Passing.{Put}
use Rattle.expression.proofs.Passing.{Passed}
use Rattle.expression.proofs.spell.put_letters.Given as goal

abbrev pub invariant-loop-code : goal.invariant-loop-code
invariant-loop-code g l =
    (done : List ℕ) × Passed l.layout l.turns l.walk done × Put (filter_map g.K.Kind.lettered done) 0 l.count l.initial.letters l.letters

abbrev pub decreases-loop-code : goal.decreases-loop-code
decreases-loop-code g l = left l.walk
