use Rattle.matching.proofs.WalkLaws.{gone_as}
use Rattle.matching.proofs.walk.next_place.Goals as goal

pub returns : goal.returns
returns c = let e = c.new.ensures in gone_as c.args.place e.layout e.code e.next c.step.ensures
