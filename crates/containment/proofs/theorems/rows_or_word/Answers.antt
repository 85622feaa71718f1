use Rattle.containment.proofs.Dichotomy.{dichotomy}
use Rattle.containment.proofs.theorems.rows_or_word.Goals as goal

pub returns : goal.returns
returns c = dichotomy
