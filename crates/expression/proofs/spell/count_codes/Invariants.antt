use Rattle.std.proofs.Common.{ℕ, List}
use Rattle.expression.specs.Following.{left}
use Rattle.expression.proofs.Passing.{Passed}
use Rattle.expression.proofs.spell.count_codes.Given as goal

abbrev pub invariant-loop : goal.invariant-loop
invariant-loop l = (done : List ℕ) × Passed l.layout l.turns l.walk done

abbrev pub decreases-loop : goal.decreases-loop
decreases-loop l = left l.walk
