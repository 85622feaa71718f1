-- Rolled-up trees are in order exactly if their routes are, or the routes are the same and the trees of what is to come are.
use Rattle.std.proofs.Common.{◌≡◌, ℕ, ◌⊎◌, List, ◌∷◌, sym, refl, ap, subst, inl, inr}
use Rattle.expression.specs.Expressions.{Expr, pair}
use Rattle.expression.specs.Trees.{Tree}
use Rattle.expression.specs.Tuples.{TreesOf, is_nil, is_cons, Lex, here, there}
use Rattle.expression.specs.Routes.{Route, in_first, in_second, in_left, in_right, in_member, Way, way_arrive, way_first, way_second, way_left, way_right, way_member, roll, Sooner, sooner_first, sooner_in_first, sooner_passed, sooner_in_second, sooner_left, sooner_in_left, sooner_in_right, sooner_in_member}
use Rattle.expression.proofs.Strict.{irreflexive, asymmetric}
use Rattle.expression.proofs.Total.{Compared, same, before, after, total}
use Rattle.expression.proofs.Unroll.{roll_sooner, roll_rest}

lex_irreflexive : {k : List Expr} {u v : List Tree} → Lex k u v → u ≡ v → ⊥
lex_irreflexive (here b) e = irreflexive b (cc)
lex_irreflexive (there p l) e = lex_irreflexive l (cc)

lex_asymmetric : {k : List Expr} {u v : List Tree} → Lex k u v → Lex k v u → ⊥
lex_asymmetric (here b) (here c) = asymmetric b c
lex_asymmetric (here b) (there p m) = irreflexive b (sym p)
lex_asymmetric (there p l) (here c) = irreflexive c (sym p)
lex_asymmetric (there p l) (there q m) = lex_asymmetric l m

lex_total : {k : List Expr} {u v : List Tree} → TreesOf k u → TreesOf k v → (u ≡ v) ⊎ (Lex k u v ⊎ Lex k v u)
lex_total is_nil is_nil = inl refl
lex_total (is_cons {e = e} {k = k} {t = t} {u = u} h hs) (is_cons {t = t'} {u = u'} h' hs') = go (total h h') (lex_total hs hs')
  where
    go : Compared e t t' → (u ≡ u') ⊎ (Lex k u u' ⊎ Lex k u' u) → (t ∷ u ≡ t' ∷ u') ⊎ (Lex (e ∷ k) (t ∷ u) (t' ∷ u') ⊎ Lex (e ∷ k) (t' ∷ u') (t ∷ u))
    go (before b) z = inr (inl (here b))
    go (after b) z = inr (inr (here b))
    go (same p) (inl q) = inl (cc)
    go (same p) (inr (inl l)) = inr (inl (there p l))
    go (same p) (inr (inr l)) = inr (inr (there (sym p) l))

-- Two ways through one expression: the same, or one sooner.
data Routes (e : Expr) (r r' : Route) : Type 0 where
  one : r ≡ r' → Routes e r r'
  soon : Sooner e r r' → Routes e r r'
  late : Sooner e r' r → Routes e r r'

deeper : {e f : Expr} {r r' : Route} (g : Route → Route) → ((x y : Route) → Sooner e x y → Sooner f (g x) (g y)) → Routes e r r' → Routes f (g r) (g r')
deeper g m (one p) = one (ap g p)
deeper g m (soon s) = soon (m _ _ s)
deeper g m (late s) = late (m _ _ s)

way_total : {e : Expr} {k k₁ k₂ : List Expr} {r₁ r₂ : Route} {a₁ a₂ : ℕ} → Way e k r₁ a₁ k₁ → Way e k r₂ a₂ k₂ → Routes e r₁ r₂
way_total way_arrive way_arrive = one refl
way_total (way_first w) (way_first w') = deeper in_first (λ x y s. sooner_in_first s) (way_total w w')
way_total (way_first w) (way_second b w') = soon sooner_first
way_total (way_second b w) (way_first w') = late sooner_first
way_total (way_second {e = e} {f = f} {r = r} {s = s} b w) (way_second {r = r'} {s = s'} b' w') = go (total b.is b'.is) (way_total w w')
  where
    go : Compared e s s' → Routes f r r' → Routes (pair e f) (in_second s r) (in_second s' r')
    go (before x) z = soon (sooner_passed x)
    go (after x) z = late (sooner_passed x)
    go (same p) (one q) = one (cc)
    go (same p) (soon q) = soon (sooner_in_second p q)
    go (same p) (late q) = late (sooner_in_second (sym p) q)
way_total (way_left w) (way_left w') = deeper in_left (λ x y s. sooner_in_left s) (way_total w w')
way_total (way_left w) (way_right w') = soon sooner_left
way_total (way_right w) (way_left w') = late sooner_left
way_total (way_right w) (way_right w') = deeper in_right (λ x y s. sooner_in_right s) (way_total w w')
way_total (way_member w) (way_member w') = deeper in_member (λ x y s. sooner_in_member s) (way_total w w')

-- A route has one letter and one continuation.
way_one : {e : Expr} {k k₁ k₂ : List Expr} {r₁ r₂ : Route} {a₁ a₂ : ℕ} → Way e k r₁ a₁ k₁ → Way e k r₂ a₂ k₂ → r₁ ≡ r₂ → (a₁ ≡ a₂) × (k₁ ≡ k₂)
way_one way_arrive way_arrive p = (refl, refl)
way_one (way_first w) (way_first w') p = way_one w w' (cc)
way_one (way_first w) (way_second b w') p = (cc, cc)
way_one (way_second b w) (way_first w') p = (cc, cc)
way_one (way_second b w) (way_second b' w') p = way_one w w' (cc)
way_one (way_left w) (way_left w') p = way_one w w' (cc)
way_one (way_left w) (way_right w') p = (cc, cc)
way_one (way_right w) (way_left w') p = (cc, cc)
way_one (way_right w) (way_right w') p = way_one w w' (cc)
way_one (way_member w) (way_member w') p = way_one w w' (cc)

module _ {e : Expr} {k k₁ k₂ : List Expr} {r₁ r₂ : Route} {a₁ a₂ : ℕ} (u₁ u₂ : List Tree)
    (w₁ : Way e k r₁ a₁ k₁) (w₂ : Way e k r₂ a₂ k₂) (h₁ : TreesOf k₁ u₁) (h₂ : TreesOf k₂ u₂) where
  pub lex_roll : Lex (e ∷ k) (roll r₁ a₁ u₁) (roll r₂ a₂ u₂) → Sooner e r₁ r₂ ⊎ ((r₁ ≡ r₂) × Lex k₁ u₁ u₂)
  lex_roll l = go (way_total w₁ w₂)
    where
      alike : r₁ ≡ r₂ → TreesOf k₁ u₂ → a₁ ≡ a₂ → (u₁ ≡ u₂) ⊎ (Lex k₁ u₁ u₂ ⊎ Lex k₁ u₂ u₁) → Lex k₁ u₁ u₂
      alike p h q (inl x) = absurd (lex_irreflexive l (cc))
      alike p h q (inr (inl x)) = x
      alike p h q (inr (inr x)) =
          let m : Lex (e ∷ k) (roll r₂ a₂ u₂) (roll r₁ a₁ u₁) = rw (← p, ← q) (roll_rest u₂ u₁ w₁ h h₁ x) in absurd (lex_asymmetric l m)

      go : Routes e r₁ r₂ → Sooner e r₁ r₂ ⊎ ((r₁ ≡ r₂) × Lex k₁ u₁ u₂)
      go (soon s) = inl s
      go (late s) = absurd (lex_asymmetric l (roll_sooner u₂ u₁ w₂ w₁ h₂ h₁ s))
      go (one p) = let (q, c) = way_one w₁ w₂ p in let h : TreesOf k₁ u₂ = rw c h₂ in inr (p, alike p h q (lex_total h₁ h))

  pub roll_lex : Sooner e r₁ r₂ ⊎ ((r₁ ≡ r₂) × Lex k₁ u₁ u₂) → Lex (e ∷ k) (roll r₁ a₁ u₁) (roll r₂ a₂ u₂)
  roll_lex (inl s) = roll_sooner u₁ u₂ w₁ w₂ h₁ h₂ s
  roll_lex (inr x) =
      let (q, c) = way_one w₁ w₂ x.0 in let h : TreesOf k₁ u₂ = rw c h₂ in
      let l : Lex (e ∷ k) (roll r₁ a₁ u₁) (roll r₁ a₁ u₂) = roll_rest u₁ u₂ w₁ h₁ h x.1 in
      subst (λ r. Lex (e ∷ k) (roll r₁ a₁ u₁) (roll r a₂ u₂)) x.0 (subst (λ a. Lex (e ∷ k) (roll r₁ a₁ u₁) (roll r₁ a u₂)) q l)
