use Rattle.std.proofs.Common.{ℕ, ◌<◌, ◌∙◌, ap, sym, arith}
use Rattle.expression.proofs.EmptyTurns.{Side, skip_first, skip_second, put_pair, first_inside, left_side, right_side, put_side, blank_small}
use Rattle.expression.proofs.layout.Layout.+put_below.Goals as goal
use Rattle.expression.proofs.layout.Layout.+put_below.Goals.{After-saturating_add, then-node, else-node}

pub put_below-before-requires : goal.put_below-before-requires
put_below-before-requires t c =
    let x = skip_first c.args.self.now c.args.i c.requires c.node.result c.node.ensures c.in-Pair.is in
    let l : c.in-Pair.first < c.args.i = x.0 in
    (omega (arith, c.decreases), x.1)

pub put_below-requires : goal.put_below-requires
put_below-requires t c =
    let x = skip_second c.args.self.now c.args.i c.requires c.node.result c.node.ensures c.in-Pair.is in
    let l : c.in-Pair.second < c.args.i = x.0 in
    (omega (arith, c.decreases), x.1)

pub returns-in-Pair : goal.returns-in-Pair
returns-in-Pair t c =
    put_pair c.args.self.now c.args.i c.requires c.node.result c.node.ensures c.in-Pair.is c.args.at c.put_below-before.result c.put_below.result
    c.args.turns.now c.put_below-before.new.turns c.put_below.new.turns (omega arith) c.put_below-before.ensures
    (rw (c.saturating_add-after.ensures, c.from.ensures) at c.put_below.ensures)

pub overflow_add-result : goal.overflow_add-result
overflow_add-result t c = let h = blank_small c.args.self.now c.args.i c.requires _ (returns-in-Pair t c).count in omega arith

pub node-requires-in-Or : goal.node-requires-in-Or
node-requires-in-Or t c = first_inside c.args.self.now c.args.i c.requires c.node.result c.node.ensures c.in-Or.is

side : (t : ℕ) (c : After-saturating_add t) → Side c.args.self.now c.args.i c.requires c.node.result c.node.ensures c.if-node.turn.1 c.if-node.turn.0
side t c = elim c.if-node.branch [
  | then-node w ↦ rw w.turn-is (left_side c.args.self.now c.args.i c.requires c.node.result c.node.ensures c.in-Or.is (sym (ap (λ n. n.admits) c.node-in-Or.ensures) ∙ w.if-node.true))
  | else-node w ↦ rw w.turn-is (right_side c.args.self.now c.args.i c.requires c.node.result c.node.ensures c.in-Or.is (sym (ap (λ n. n.admits) c.node-in-Or.ensures) ∙ w.if-node.false))
]

pub put_below-requires-in-Or : goal.put_below-requires-in-Or
put_below-requires-in-Or t c =
    let x = side t c in
    let l : c.if-node.turn.1 < c.args.i = x.lower in
    (omega (arith, c.decreases), x.skips)

pub returns-after-node : goal.returns-after-node
returns-after-node t c =
    put_side c.args.self.now c.args.i c.requires c.node.result c.node.ensures c.in-Or.is _ _ (side t (goal.at.returns-after-node t c).After-saturating_add) c.args.at c.put_below-in-Or.result
    c.args.turns.now c.put.new.buffer c.put_below-in-Or.new.turns (omega arith) c.put.ensures (rw c.saturating_add.ensures at c.put_below-in-Or.ensures)

pub overflow_add-result-in-Or : goal.overflow_add-result-in-Or
overflow_add-result-in-Or t c = let h = blank_small c.args.self.now c.args.i c.requires _ (returns-after-node t c).count in omega arith
