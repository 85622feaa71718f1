use Rattle.std.proofs.Common.{arith}
use Rattle.expression.specs.Layouts.{nodes_of}
use Rattle.containment.proofs.Passing.{closing_more}
use Rattle.containment.proofs.Wiring.{wired}
use Rattle.containment.proofs.passes.closing.Goals as goal

pub loop-node-preserved : goal.loop-node-preserved
loop-node-preserved c =
    closing_more (nodes_of c.args.layout.now) (wired c.args.layout.now) c.args.set.now c.loop-node.closing c.loop-node.node (omega arith) c.loop-node.invariant.1
    c.closes-closes.result c.loop-node.invariant.0 c.closes-closes.ensures c.from.result c.from.ensures
