use Rattle.std.proofs.Common.{◌≡◌, ◌≤◌}
use Rattle.expression.specs.Following.{to_come, left}
use Rattle.expression.proofs.walk.Walk.next_code.Given as goal

abbrev pub invariant-loop-node : goal.invariant-loop-node
invariant-loop-node l = record {
  codes : to_come l.initial.self ≡ to_come l.self;
  letters : l.self.letters ≡ l.initial.self.letters;
  less : left l.self ≤ left l.initial.self;
}

abbrev pub decreases-loop-node : goal.decreases-loop-node
decreases-loop-node l = left l.self
