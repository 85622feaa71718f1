use Rattle.matching.specs.Passes.{usable}
use Rattle.matching.proofs.Passes.{spread_pair, spread_or, spread_star}
use Rattle.matching.proofs.entered.Entered.+spread.Goals as goal

pub returns-in-Pair : goal.returns-in-Pair
returns-in-Pair t c =
    let s = c.args.self.now in
    spread_pair c.read-here.ensures s.code (usable s.next.now) c.args.on c.in-Pair.is c.onward-after.result c.onward-after.ensures _ _ _ c.spread.ensures c.spread-in-Pair.ensures

pub returns-in-Or : goal.returns-in-Or
returns-in-Or t c =
    let s = c.args.self.now in
    spread_or c.read-here.ensures s.code (usable s.next.now) c.args.on c.in-Or.is _ _ _ c.spread-in-Or.ensures c.spread-in-Or-2.ensures

pub returns-in-Star : goal.returns-in-Star
returns-in-Star t c =
    let s = c.args.self.now in
    spread_star c.read-here.ensures s.code (usable s.next.now) c.args.on c.in-Star.is c.onward-again.result c.onward-again.ensures _ _ c.spread-in-Star.ensures
