use Rattle.expression.proofs.Meaning.{layout_stands}
use Rattle.expression.proofs.laws.layouts_stand.Goals as goal

pub returns : goal.returns
returns c l = layout_stands l
