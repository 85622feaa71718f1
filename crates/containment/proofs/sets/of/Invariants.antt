use Rattle.containment.proofs.Marking.{Marking}
use Rattle.containment.proofs.sets.of.Given as goal

abbrev pub invariant-loop-place : goal.invariant-loop-place
invariant-loop-place l = Marking l.places l.set l.place-index
