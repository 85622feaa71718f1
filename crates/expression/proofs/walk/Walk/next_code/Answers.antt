use Rattle.expression.proofs.Visiting.{fits_popped, small_popped}
use Rattle.expression.proofs.walk.Walk.next_code.Goals as goal

pub invariant_of-self : goal.invariant_of-self
invariant_of-self c = record {
  fits = ∣ fits_popped c.loop-node.self c.pop.new.self.items c.pop.result c.pop.ensures.items ∣₁;
  small = small_popped c.loop-node.self c.pop.new.self.items c.pop.result c.pop.ensures.items;
}
