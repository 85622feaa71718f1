use Rattle.containment.proofs.Passing.{codes_is}
use Rattle.containment.proofs.places.Places.new.Goals as goal

pub invariant_of-result : goal.invariant_of-result
invariant_of-result c = record {
  coded = codes_is c.args.layout.now c.whole.result.layout.now c.whole.ensures.layout c.whole.result.node c.whole.ensures.node c.put_codes.new.out c.put_codes.ensures;
}
