use Rattle.std.proofs.Common.{arith}
use Rattle.std.proofs.iter.Serving.{serving}
use Rattle.containment.proofs.Tabled.{places_few}
use Rattle.containment.proofs.scene.Scene.unserved.Goals as goal

pub find-requires-clause-callable : goal.find-requires-clause-callable
find-requires-clause-callable c = let few = places_few c.args.self.now.earlier.layout.now in grind (arith, serving)
