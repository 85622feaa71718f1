use Rattle.std.proofs.Common.{false, refl}
use Rattle.containment.proofs.Marking.{mark_none}
use Rattle.containment.proofs.Passing.{blank}
use Rattle.containment.proofs.sets.of.Goals as goal

pub loop-place-init : goal.loop-place-init
loop-place-init c = mark_none c.args.places.now _ refl (blank false 129)
