use Rattle.containment.proofs.Sound.{sound}
use Rattle.containment.proofs.theorems.rows_are_sound.Goals as goal

pub returns : goal.returns
returns c = sound
