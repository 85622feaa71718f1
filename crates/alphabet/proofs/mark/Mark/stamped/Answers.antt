use Rattle.std.proofs.Common.{sym}
use Rattle.alphabet.specs.MarkLaws.{ranged_stamped}
use Rattle.alphabet.proofs.mark.Mark.stamped.Goals as goal

pub returns : goal.returns
returns c = sym (ranged_stamped c.args.number _ c.args.stamp)
