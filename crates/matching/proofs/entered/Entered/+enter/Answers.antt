use Rattle.matching.proofs.Ways.{enter_second}
use Rattle.matching.proofs.entered.Entered.+enter.Goals as goal

pub returns-else-self-from : goal.returns-else-self-from
returns-else-self-from t c =
    let s = c.args.self.now in
    enter_second c.read-here.ensures c.requires s.code s.next.now s.enterable.now s.right c.in-Pair.is c.from.result c.from.ensures c.if-self-from.false
    _ _ _ _ c.put_empty_tree.ensures c.enter-else-self-from.ensures
