use Rattle.std.proofs.Common.{◌≡◌, ◌∷◌, cond, reverse, true, sym, refl, ap, ◌∙◌, arith}
use Rattle.expression.proofs.Visiting.{Left, one_on, two_on, at_once, fits_left, small_left, visit_pair, visit_side, visit_list}
use Rattle.expression.proofs.walk.Walk.visit.Goals as goal
use Rattle.expression.proofs.walk.Walk.visit.Goals.{After-push-in-Pair, After-push-in-Or, After-push-then-not-ends-2, then-turned, else-turned}

in_pair : (c : After-push-in-Pair) → (reverse c.push-in-Pair.new.self.items ≡ at_once c.in-Pair.first ∷ (at_once c.in-Pair.second ∷ reverse c.args.self.now.pending.items))
    × Left c.args.self.now c.args.i (at_once c.in-Pair.first ∷ (at_once c.in-Pair.second ∷ reverse c.args.self.now.pending.items)) c.args.self.now.bare c.args.self.now.turns.now
in_pair c = (
  two_on _ _ _ _ _ _ _ c.push.ensures.items c.at_once.ensures c.push-in-Pair.ensures.items c.at_once-in-Pair.ensures,
  visit_pair c.args.self.now c.args.i c.requires c.node.result c.node.ensures c.in-Pair.is,
)

pub invariant_of-self-in-Pair : goal.invariant_of-self-in-Pair
invariant_of-self-in-Pair c =
    let x = in_pair c in record { fits = fits_left c.push-in-Pair.new.self.items x.1 x.0; small = small_left c.push-in-Pair.new.self.items c.requires x.1 x.0 }

pub returns-in-Pair : goal.returns-in-Pair
returns-in-Pair c = let x = in_pair (goal.at.returns-in-Pair c).After-push-in-Pair in (rw x.0 x.1.codes, record { letters = omega arith; less = rw x.0 x.1.less })

in_or : (c : After-push-in-Or) → (reverse c.push-in-Or.new.self.items ≡ at_once (cond c.in_ok-turned-in-Or.turned c.in-Or.right c.in-Or.left) ∷ reverse c.args.self.now.pending.items)
    × Left c.args.self.now c.args.i (at_once (cond c.in_ok-turned-in-Or.turned c.in-Or.right c.in-Or.left) ∷ reverse c.args.self.now.pending.items) c.args.self.now.bare c.in_ok-turned-in-Or.rest.now
in_or c =
    let side : c.if-turned.side ≡ cond c.in_ok-turned-in-Or.turned c.in-Or.right c.in-Or.left = elim c.if-turned.branch [
      | then-turned w ↦ w.side-is ∙ sym (ap (λ b. cond b c.in-Or.right c.in-Or.left) w.if-turned.true)
      | else-turned w ↦ w.side-is ∙ sym (ap (λ b. cond b c.in-Or.right c.in-Or.left) w.if-turned.false)
    ] in (
      one_on _ _ _ _ c.push-in-Or.ensures.items (c.at_once-in-Or.ensures ∙ ap at_once side),
      visit_side c.args.self.now c.args.i c.requires c.node.result c.node.ensures c.in-Or.is c.in_ok-turned-in-Or.turned c.in_ok-turned-in-Or.rest.now c.in_ok-turned-in-Or.ensures,
    )

pub invariant_of-self-in-Or : goal.invariant_of-self-in-Or
invariant_of-self-in-Or c =
    let x = in_or c in record { fits = fits_left c.push-in-Or.new.self.items x.1 x.0; small = small_left c.push-in-Or.new.self.items c.requires x.1 x.0 }

pub returns-after-turned : goal.returns-after-turned
returns-after-turned c = let x = in_or (goal.at.returns-after-turned c).After-push-in-Or in (rw x.0 x.1.codes, record { letters = omega arith; less = rw x.0 x.1.less })

in_list : (c : After-push-then-not-ends-2) → (reverse c.push-then-not-ends-2.new.self.items ≡ at_once c.in-Star.child ∷ (record { node = c.args.i; again = true } ∷ reverse c.args.self.now.pending.items))
    × Left c.args.self.now c.args.i (at_once c.in-Star.child ∷ (record { node = c.args.i; again = true } ∷ reverse c.args.self.now.pending.items)) true c.in_ok-ends-in-Star.rest.now
in_list c = (
  two_on _ _ _ _ _ _ _ c.push-then-not-ends.ensures.items refl c.push-then-not-ends-2.ensures.items c.at_once-then-not-ends.ensures,
  visit_list c.args.self.now c.args.i c.requires c.node.result c.node.ensures c.in-Star.is c.in_ok-ends-in-Star.rest.now (rw c.if-not-ends.true at c.in_ok-ends-in-Star.ensures),
)

pub invariant_of-self-then-not-ends : goal.invariant_of-self-then-not-ends
invariant_of-self-then-not-ends c =
    let x = in_list c in record { fits = fits_left c.push-then-not-ends-2.new.self.items x.1 x.0; small = small_left c.push-then-not-ends-2.new.self.items c.requires x.1 x.0 }

pub returns-then-not-ends : goal.returns-then-not-ends
returns-then-not-ends c = let x = in_list (goal.at.returns-then-not-ends c).After-push-then-not-ends-2 in (rw x.0 x.1.codes, record { letters = omega arith; less = rw x.0 x.1.less })
