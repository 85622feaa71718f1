use Rattle.containment.proofs.Format.{format}
use Rattle.containment.proofs.theorems.lists_are_rows.Goals as goal

pub returns : goal.returns
returns c = format
