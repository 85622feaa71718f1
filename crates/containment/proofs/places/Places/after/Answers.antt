use Rattle.std.proofs.Common.{rules}
use Rattle.containment.proofs.Passing.{after_is}
use Rattle.containment.proofs.places.Places.after.Goals as goal

pub returns : goal.returns
returns c =
    after_is c.args.self.now.layout.now c.whole-whole.result.layout.now c.whole-whole.ensures.layout c.whole-whole.result.node c.whole-whole.ensures.node c.args.set.now
    c.closing-closing.result c.spread.new.out c.closing-closing.ensures (c.spread.ensures c.args.set.now) c.read-admits.result c.read-admits.ensures c.from.result c.from.ensures _ (search rules)
