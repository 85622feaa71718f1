-- The ways from node to node.
use Rattle.std.proofs.Common.{◌≡◌, ℕ, suc, ◌+◌, ◌-◌, ◌<◌, ◌≤◌, Bool, true, false, cond, ◌&&◌, ◌||◌, ◌⊎◌, List, [], ◌∷◌, ◌++◌, length, get_or, Some, None, Option, sym, refl, ap, ◌∙◌, inl, inr, append_assoc, arith}
use borrow.Author.Tests.{clash}
use Rattle.std.proofs.lemmas.List.{get_or-map, get_or_append_left, get_or-append_right}
use Rattle.expression.specs.Expressions.{Expr, letter, empty, pair, or, star, admits_empty}
use Rattle.expression.specs.Places.{letter_count, Item, item, continuations}
use Rattle.expression.specs.Layouts.{nodes_of}
use Rattle.expression.specs.declared.layout.Layout.{Layout}
use Rattle.expression.specs.declared.node.Node.{Node}
use Rattle.expression.specs.declared.node.Shape.TheVariants.{Pair, Or, Star}
use Rattle.matching.specs.Holding.{held, Tells}
use Rattle.matching.specs.Passes.{enters, enters_in, usable, Entries}
use Rattle.matching.specs.Turned.{blank, Put}
use Rattle.matching.specs.Legs.{Leg, behind, route, route_in, leg, after_in, Gone}
use Rattle.matching.specs.declared.turns.Turns.{Turns}
use Rattle.matching.proofs.Holding.{made_as}
use Rattle.matching.proofs.Passes.{continuations_append, count_continuations}
use Rattle.matching.proofs.Turned.{gone_behind}

-- The way into the second part of a pair whose first part may not be entered.
pub enter_second : {l : Layout} {i : ℕ} {n : Node} → Tells l i n → i < length (nodes_of l) → (a : ℕ) (next : List ℕ) (told : List Bool) → Entries l a next told (length (nodes_of l))
    → {j k : ℕ} → n.shape ≡ Pair j k → (at : ℕ) → at ≡ j → get_or told at false ≡ false → (o : Option ℕ) (u v w : Turns) → Put (blank (held l j).expr) u v
    → Gone (route_in a (usable next) (held l k)) o v w → Gone (route_in a (usable next) (held l i)) o u w
enter_second {l} {i} here h a next told all {j} {k} q at r s o u v w x y =
    let t = made_as here q in
    let f : j < length (nodes_of l) = (let low = t.first_low in omega arith) in
    let shut : enters a (usable next) (held l i).before (held l j).expr ≡ false =
    ap (λ (b : ℕ). enters a (usable next) b (held l j).expr) (sym t.first_before) ∙ sym (all j f) ∙ ap (λ (m : ℕ). get_or told m false) (sym r) ∙ s in
    let e : route_in a (usable next) (held l i) ≡ behind (blank (held l j).expr) (route_in a (usable next) (held l k)) = rw (t.is, shut, ← t.second_before) in
    rw e (gone_behind x y)

no_place : {q : ℕ} → ◌≡◌ {A = Option ℕ} None (Some q) → ⊥
no_place p = let z : ◌≡◌ {A = ℕ} 0 1 = cc in omega arith

abbrev along : List ℕ → Option ℕ → Leg
along ts p = record { turned = ts; place = p }

-- Legs through some items and behind through others.
module _ (a : ℕ) (next : ℕ → Bool) where
  route_arrives : (o : ℕ) (e : Expr) → enters a next o e ≡ true → (q : ℕ) × ((route a next o e).place ≡ Some q)
  route_arrives o (letter c) h = (suc o, refl)
  route_arrives o empty h = absurd (clash h)
  route_arrives o (pair e f) h = go (enters a next o e) (admits_empty e) (route_arrives o e) (route_arrives (o + letter_count e) f) refl h
    where
      go : (b c : Bool) → (enters a next o e ≡ true → (q : ℕ) × ((route a next o e).place ≡ Some q))
          → (enters a next (o + letter_count e) f ≡ true → (q : ℕ) × ((route a next (o + letter_count e) f).place ≡ Some q)) → enters a next o e ≡ b → b || (c && enters a next (o + letter_count e) f) ≡ true
          → (q : ℕ) × ((cond b (route a next o e) (behind (blank e) (route a next (o + letter_count e) f))).place ≡ Some q)
      go true c x y p h = x p
      go false true x y p h = y h
      go false false x y p h = absurd (clash h)
  route_arrives o (or e f) h = go (enters a next o e) (route_arrives o e) (route_arrives (o + letter_count e) f) refl h
    where
      go : (b : Bool) → (enters a next o e ≡ true → (q : ℕ) × ((route a next o e).place ≡ Some q))
          → (enters a next (o + letter_count e) f ≡ true → (q : ℕ) × ((route a next (o + letter_count e) f).place ≡ Some q)) → enters a next o e ≡ b → b || enters a next (o + letter_count e) f ≡ true
          → (q : ℕ) × ((cond b (behind (0 ∷ []) (route a next o e)) (behind (1 ∷ []) (route a next (o + letter_count e) f))).place ≡ Some q)
      go true x y p h = x p
      go false x y p h = y h
  route_arrives o (star e) h = route_arrives o e h

  leg_reached : (k l : List Item) (q : ℕ) → (leg a next k).place ≡ Some q → leg a next (k ++ l) ≡ leg a next k
  leg_reached [] l q p = absurd (no_place p)
  leg_reached (x ∷ k) l q p = go (enters_in a next x) refl (leg_reached k l q)
    where
      go : (b : Bool) → enters_in a next x ≡ b → ((leg a next k).place ≡ Some q → leg a next (k ++ l) ≡ leg a next k)
          → leg a next (x ∷ (k ++ l)) ≡ leg a next (x ∷ k)
      go true e ih = rw e
      go false e ih = rw e (ap (behind (blank x.expr)) (ih (rw e at p)))

  leg_passed : (k l : List Item) → (leg a next k).place ≡ None → leg a next (k ++ l) ≡ behind (leg a next k).turned (leg a next l)
  leg_passed [] l p = refl
  leg_passed (x ∷ k) l p = go (enters_in a next x) refl (leg_passed k l)
    where
      go : (b : Bool) → enters_in a next x ≡ b → ((leg a next k).place ≡ None → leg a next (k ++ l) ≡ behind (leg a next k).turned (leg a next l))
          → leg a next (x ∷ (k ++ l)) ≡ behind (leg a next (x ∷ k)).turned (leg a next l)
      go true e ih = let r = route_arrives x.before x.expr e in absurd (no_place (sym (rw e at p) ∙ r.1))
      go false e ih = rw e (ap (behind (blank x.expr)) (ih (rw e at p)) ∙ ap (λ (t : List ℕ). along t (leg a next l).place) (sym (append_assoc (blank x.expr) (leg a next k).turned (leg a next l).turned)))

-- A leg that goes on through further items.
module _ (a : ℕ) (next : ℕ → Bool) (k m l : List Item) (is : k ≡ m ++ l) where
  reached_then : {q : ℕ} {u v : Turns} → Gone (leg a next m) (Some q) u v → Gone (leg a next k) (Some q) u v
  reached_then {q} g = rw (is, leg_reached a next m l q (sym g.leads)) g

  passed_then : {o : Option ℕ} {u v w : Turns} → Gone (leg a next m) None u v → Gone (leg a next l) o v w → Gone (leg a next k) o u w
  passed_then g h = rw (is, leg_passed a next m l (sym g.leads)) (gone_behind g.put h)

-- What is to come after place p inside e, where p is inside a part of e.
module _ (o o₁ o₂ p : ℕ) (e e₁ e₂ : Expr) (q₁ : o₁ ≡ o) (q₂ : o₂ ≡ o + letter_count e₁) where
  added : (x : Item) → o < p → p ≤ o + letter_count e₁ → get_or (continuations o e₁ (x ∷ [])) (p - suc o) [] ≡ after_in (item o₁ e₁) p ++ (x ∷ [])
  added x l h =
      let z : p - suc o < length (continuations o e₁ []) = omega (arith, count_continuations o e₁ []) in
      rw (continuations_append o e₁ [] (x ∷ []), q₁) (get_or-map (λ k. k ++ (x ∷ [])) (continuations o e₁ []) (p - suc o) [] [] z)

  early : (k : List Item) (m : List (List Item)) → o < p → p ≤ o + letter_count e₁ → get_or (continuations o e₁ k ++ m) (p - suc o) [] ≡ get_or (continuations o e₁ k) (p - suc o) []
  early k m l h = get_or_append_left (continuations o e₁ k) m [] (p - suc o) (omega (arith, count_continuations o e₁ k))

  late : (k : List Item) → o + letter_count e₁ < p → get_or (continuations o e₁ k ++ continuations (o + letter_count e₁) e₂ []) (p - suc o) [] ≡ after_in (item o₂ e₂) p
  late k h =
      let z : p - suc o - letter_count e₁ ≡ p - suc o₂ = omega arith in
      get_or-append_right (continuations o e₁ k) (continuations (o + letter_count e₁) e₂ []) (letter_count e₁) (p - suc o) [] (count_continuations o e₁ k) (omega arith) ∙ rw (z, q₂)

  after_pair : e ≡ pair e₁ e₂ → o < p → p ≤ o + letter_count e₁ → after_in (item o e) p ≡ after_in (item o₁ e₁) p ++ (item o₂ e₂ ∷ [])
  after_pair s l h = rw (s, ← q₂) (early (item o₂ e₂ ∷ []) (continuations o₂ e₂ []) l h ∙ added (item o₂ e₂) l h)

  after_second : (s : (e ≡ pair e₁ e₂) ⊎ (e ≡ or e₁ e₂)) → o + letter_count e₁ < p → after_in (item o e) p ≡ after_in (item o₂ e₂) p
  after_second (inl s) h = rw s (late (item (o + letter_count e₁) e₂ ∷ []) h)
  after_second (inr s) h = rw s (late [] h)

  after_left : e ≡ or e₁ e₂ → o < p → p ≤ o + letter_count e₁ → after_in (item o e) p ≡ after_in (item o₁ e₁) p
  after_left s l h = rw s (early [] (continuations (o + letter_count e₁) e₂ []) l h ∙ rw q₁)

  after_star : e ≡ star e₁ → o < p → p ≤ o + letter_count e₁ → after_in (item o e) p ≡ after_in (item o₁ e₁) p ++ (item o e ∷ [])
  after_star s l h = rw s (added (item o (star e₁)) l h)

-- From place p on through the rest of a node.
module _ {l : Layout} {i : ℕ} {n : Node} (here : Tells l i n) (p : ℕ) (after : (held l i).before < p) (within : p ≤ (held l i).before + letter_count (held l i).expr) where
  after_early : {j k : ℕ} {first : Node} → Tells l j first → n.shape ≡ Pair j k → p ≤ first.letters → after_in (held l i) p ≡ after_in (held l j) p ++ (held l k ∷ [])
  after_early {j} {k} f q h =
      let t = made_as here q in
      let d = f.letters in let b = t.first_before in
      after_pair (held l i).before (held l j).before (held l k).before p (held l i).expr (held l j).expr (held l k).expr b t.second_before t.is after (omega arith)

  pub after_either : {j k : ℕ} {first : Node} → Tells l j first → n.shape ≡ Or j k → p ≤ first.letters → after_in (held l i) p ≡ after_in (held l j) p
  after_either {j} {k} f q h =
      let t = made_as here q in
      let d = f.letters in let b = t.first_before in
      after_left (held l i).before (held l j).before (held l k).before p (held l i).expr (held l j).expr (held l k).expr b t.second_before t.is after (omega arith)

  pub after_late : {j k : ℕ} {first : Node} → Tells l j first → (n.shape ≡ Pair j k) ⊎ (n.shape ≡ Or j k) → first.letters < p → after_in (held l i) p ≡ after_in (held l k) p
  after_late {j} {k} f (inl q) h =
      let t = made_as here q in
      let d = f.letters in let b = t.first_before in
      after_second (held l i).before (held l j).before (held l k).before p (held l i).expr (held l j).expr (held l k).expr b t.second_before (inl t.is) (omega arith)
  after_late {j} {k} f (inr q) h =
      let t = made_as here q in
      let d = f.letters in let b = t.first_before in
      after_second (held l i).before (held l j).before (held l k).before p (held l i).expr (held l j).expr (held l k).expr b t.second_before (inr t.is) (omega arith)

  after_again : {j : ℕ} → n.shape ≡ Star j → after_in (held l i) p ≡ after_in (held l j) p ++ (held l i ∷ [])
  after_again {j} q =
      let t = made_as here q in
      let d = ap letter_count t.is in
      after_star (held l i).before (held l j).before ((held l i).before + letter_count (held l j).expr) p (held l i).expr (held l j).expr empty t.before refl t.is after (omega arith)

  -- The letter is reached inside the first part, or the way goes on from there.
  module _ (a : ℕ) (next : ℕ → Bool) where
    abbrev Leaves : ℕ → Option ℕ → Turns → Turns → Type 0
    Leaves j = Gone (leg a next (after_in (held l j) p))

    pub pair_reached : {j k : ℕ} {first : Node} → Tells l j first → n.shape ≡ Pair j k → p ≤ first.letters → {r : ℕ} {u v : Turns} → Leaves j (Some r) u v → Leaves i (Some r) u v
    pair_reached {j} {k} f q h = reached_then a next _ (after_in (held l j) p) (held l k ∷ []) (after_early f q h)

    pub pair_passed : {j k : ℕ} {first : Node} → Tells l j first → n.shape ≡ Pair j k → p ≤ first.letters → {o : Option ℕ} {u v w : Turns} → Leaves j None u v → Gone (leg a next (held l k ∷ [])) o v w
        → Leaves i o u w
    pair_passed {j} {k} f q h = passed_then a next _ (after_in (held l j) p) (held l k ∷ []) (after_early f q h)

    pub star_reached : {j : ℕ} → n.shape ≡ Star j → {r : ℕ} {u v : Turns} → Leaves j (Some r) u v → Leaves i (Some r) u v
    star_reached {j} q = reached_then a next _ (after_in (held l j) p) (held l i ∷ []) (after_again q)

    pub star_passed : {j : ℕ} → n.shape ≡ Star j → {o : Option ℕ} {u v w : Turns} → Leaves j None u v → Gone (leg a next (held l i ∷ [])) o v w → Leaves i o u w
    star_passed {j} q = passed_then a next _ (after_in (held l j) p) (held l i ∷ []) (after_again q)
