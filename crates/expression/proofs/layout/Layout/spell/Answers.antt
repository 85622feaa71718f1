use Rattle.std.proofs.Common.{arith}
use Rattle.expression.proofs.Passing.{spelt_all}
use Rattle.expression.proofs.layout.Layout.spell.Goals as goal

pub returns-clause-buffer : goal.returns-clause-buffer
returns-clause-buffer g c = spelt_all _ _ _ _ _ c.args.letters.now c.put_letters-2.new.letters c.in_ok-count.ensures (omega arith) c.in_ok-put_letters.ensures
