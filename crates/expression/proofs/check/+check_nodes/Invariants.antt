use Rattle.std.proofs.Common.{length}
use Rattle.expression.proofs.check.+check_nodes.Given as goal

abbrev pub decreases-check_nodes : goal.decreases-check_nodes
decreases-check_nodes l = length l.table.now
