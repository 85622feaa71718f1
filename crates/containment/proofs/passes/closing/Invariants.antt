use Rattle.std.proofs.Common.{◌≡◌, length}
use Rattle.expression.specs.Layouts.{nodes_of}
use Rattle.containment.specs.Passes.{Closing}
use Rattle.containment.proofs.passes.closing.Given as goal

abbrev pub invariant-loop-node : goal.invariant-loop-node
invariant-loop-node l = (length l.closing ≡ 256) × Closing (nodes_of l.layout) l.set l.closing l.node
