-- Trees of which the first has letters are a route, its letter and trees of what is then to come, in one way.
use Rattle.std.proofs.Common.{◌≡◌, ℕ, ◌⊎◌, List, [], ◌∷◌, sym, refl, ap, ◌∙◌, subst, inl, inr, arith}
use borrow.Author.Tests.{clash}
use Rattle.expression.specs.Expressions.{Expr, letter, empty, pair, or, star}
use Rattle.expression.specs.Trees.{Tree, both, left, right, more, is_leaf, is_unit, spells}
use Rattle.expression.specs.Words.{Parse}
use Rattle.expression.specs.Tuples.{TreesOf, is_cons, spell_all, Lex, there, on_first, merge}
use Rattle.expression.specs.Routes.{Route, arrive, in_first, in_second, in_left, in_right, in_member, Way, way_arrive, way_first, way_second, way_left, way_right, way_member, roll, Sooner, sooner_first, sooner_in_first, sooner_passed, sooner_in_second, sooner_left, sooner_in_left, sooner_in_right, sooner_in_member, Begins, begins, Unrolled}
use Rattle.expression.proofs.Letters.{nil_nonempty}
use Rattle.expression.proofs.Firsts.{Image, Image2}
use Rattle.expression.proofs.Beginnings.{to_first, to_second, from_pair, to_left, to_right, from_or, to_member, from_star, first_order, second_order, left_order, right_order, first_then_second, passed_order, left_then_right, member_order}

pub rolled : {e : Expr} {k k' : List Expr} {r : Route} {a : ℕ} (u : List Tree) → Way e k r a k' → TreesOf k' u → Begins e k (a ∷ spell_all u) (roll r a u)
rolled u way_arrive h = begins is_leaf refl h refl
rolled u (way_first w) h = to_first _ (rolled u w h)
rolled u (way_second {s = s} b w) h = to_second s _ b (rolled u w h)
rolled u (way_left w) h = to_left _ (rolled u w h)
rolled u (way_right w) h = to_right _ (rolled u w h)
rolled u (way_member w) h = to_member _ (rolled u w h)

-- One step more on the way.
longer : {e e' : Expr} {k k' : List Expr} {w : List ℕ} {v v' : List Tree} (g : Route → Route) (c : List Tree → List Tree)
    → ((r : Route) (a : ℕ) (u : List Tree) → roll (g r) a u ≡ c (roll r a u)) → ((r : Route) (a : ℕ) (k₁ : List Expr) → Way e k r a k₁ → Way e' k' (g r) a k₁)
    → c v ≡ v' → Unrolled e k w v → Unrolled e' k' w v'
longer g c same on q x =
    record { route = g x.route; letter = x.letter; items = x.items; rest = x.rest; way = on _ _ _ x.way; are = x.are; spelt = x.spelt; is = same x.route x.letter x.rest ∙ ap c x.is ∙ q }

pub unroll : (e : Expr) (k : List Expr) (w : List ℕ) (v : List Tree) → Begins e k w v → Unrolled e k w v
unroll (letter b) k w v h = go v h
  where
    go : (v : List Tree) → Begins (letter b) k w v → Unrolled (letter b) k w v
    go v (begins {u = u} is_leaf x hs p) = record { route = arrive; letter = b; items = k; rest = u; way = way_arrive; are = hs; spelt = p; is = refl }
unroll empty k w v h = go v h
  where
    go : (v : List Tree) → Begins empty k w v → Unrolled empty k w v
    go v (begins is_unit x hs p) = absurd (clash x)
unroll (pair e f) k w v h = go (from_pair v h) (unroll e (f ∷ k) w) (unroll f k w)
  where
    go : Image (merge both) (Begins e (f ∷ k) w) v ⊎ Image2 (λ s. on_first (both s)) (Parse e []) (Begins f k w) v
        → ((v : List Tree) → Begins e (f ∷ k) w v → Unrolled e (f ∷ k) w v) → ((v : List Tree) → Begins f k w v → Unrolled f k w v) → Unrolled (pair e f) k w v
    go (inl m) i j = longer in_first (merge both) (λ r a u. refl) (λ r a k₁ x. way_first x) m.2 (i m.0 m.1)
    go (inr m) i j = longer (in_second m.0) (on_first (both m.0)) (λ r a u. refl) (λ r a k₁ x. way_second m.2 x) m.4 (j m.1 m.3)
unroll (or e f) k w v h = go (from_or v h) (unroll e k w) (unroll f k w)
  where
    go : Image (on_first left) (Begins e k w) v ⊎ Image (on_first right) (Begins f k w) v
        → ((v : List Tree) → Begins e k w v → Unrolled e k w v) → ((v : List Tree) → Begins f k w v → Unrolled f k w v) → Unrolled (or e f) k w v
    go (inl m) i j = longer in_left (on_first left) (λ r a u. refl) (λ r a k₁ x. way_left x) m.2 (i m.0 m.1)
    go (inr m) i j = longer in_right (on_first right) (λ r a u. refl) (λ r a k₁ x. way_right x) m.2 (j m.0 m.1)
unroll (star e) k w v h =
    let m = from_star v h in longer in_member (merge more) (λ r a u. refl) (λ r a k₁ x. way_member x) m.2 (unroll e (star e ∷ k) w m.0 m.1)

-- The order: by the routes, then by the trees of what is to come.
pub roll_sooner : {e : Expr} {k k₁ k₂ : List Expr} {r₁ r₂ : Route} {a₁ a₂ : ℕ} (u₁ u₂ : List Tree) → Way e k r₁ a₁ k₁ → Way e k r₂ a₂ k₂ → TreesOf k₁ u₁ → TreesOf k₂ u₂
    → Sooner e r₁ r₂ → Lex (e ∷ k) (roll r₁ a₁ u₁) (roll r₂ a₂ u₂)
roll_sooner u₁ u₂ (way_first w₁) (way_first w₂) h₁ h₂ (sooner_in_first s) = first_order _ _ (rolled u₁ w₁ h₁) (rolled u₂ w₂ h₂) (roll_sooner u₁ u₂ w₁ w₂ h₁ h₂ s)
roll_sooner u₁ u₂ (way_first w₁) (way_second {s = t} b w₂) h₁ h₂ sooner_first = first_then_second _ _ t (rolled u₁ w₁ h₁) b (rolled u₂ w₂ h₂)
roll_sooner u₁ u₂ (way_second {s = t₁} b₁ w₁) (way_second {s = t₂} b₂ w₂) h₁ h₂ (sooner_passed x) = passed_order _ _ t₁ t₂ (rolled u₁ w₁ h₁) (rolled u₂ w₂ h₂) x
roll_sooner u₁ u₂ (way_second {e = e} {f = f} {k = k} {r = r₁} {a = a₁} {s = t₁} b₁ w₁) (way_second {r = r₂} {a = a₂} {s = t₂} b₂ w₂) h₁ h₂ (sooner_in_second q s) =
    subst (λ x. Lex (pair e f ∷ k) (on_first (both t₁) (roll r₁ a₁ u₁)) (on_first (both x) (roll r₂ a₂ u₂))) q
    (second_order _ _ t₁ (rolled u₁ w₁ h₁) (rolled u₂ w₂ h₂) (roll_sooner u₁ u₂ w₁ w₂ h₁ h₂ s))
roll_sooner u₁ u₂ (way_left w₁) (way_left w₂) h₁ h₂ (sooner_in_left s) = left_order _ _ (rolled u₁ w₁ h₁) (rolled u₂ w₂ h₂) (roll_sooner u₁ u₂ w₁ w₂ h₁ h₂ s)
roll_sooner u₁ u₂ (way_left w₁) (way_right w₂) h₁ h₂ sooner_left = left_then_right _ _ (rolled u₁ w₁ h₁) (rolled u₂ w₂ h₂)
roll_sooner u₁ u₂ (way_right w₁) (way_right w₂) h₁ h₂ (sooner_in_right s) = right_order _ _ (rolled u₁ w₁ h₁) (rolled u₂ w₂ h₂) (roll_sooner u₁ u₂ w₁ w₂ h₁ h₂ s)
roll_sooner u₁ u₂ (way_member w₁) (way_member w₂) h₁ h₂ (sooner_in_member s) = member_order _ _ (rolled u₁ w₁ h₁) (rolled u₂ w₂ h₂) (roll_sooner u₁ u₂ w₁ w₂ h₁ h₂ s)
roll_sooner u₁ u₂ way_arrive w₂ h₁ h₂ s = elim s [ ]
roll_sooner u₁ u₂ (way_second b w₁) (way_first w₂) h₁ h₂ s = elim s [ ]
roll_sooner u₁ u₂ (way_right w₁) (way_left w₂) h₁ h₂ s = elim s [ ]

pub roll_rest : {e : Expr} {k k₁ : List Expr} {r : Route} {a : ℕ} (u₁ u₂ : List Tree) → Way e k r a k₁ → TreesOf k₁ u₁ → TreesOf k₁ u₂
    → Lex k₁ u₁ u₂ → Lex (e ∷ k) (roll r a u₁) (roll r a u₂)
roll_rest u₁ u₂ way_arrive h₁ h₂ l = there refl l
roll_rest u₁ u₂ (way_first w) h₁ h₂ l = first_order _ _ (rolled u₁ w h₁) (rolled u₂ w h₂) (roll_rest u₁ u₂ w h₁ h₂ l)
roll_rest u₁ u₂ (way_second {s = t} b w) h₁ h₂ l = second_order _ _ t (rolled u₁ w h₁) (rolled u₂ w h₂) (roll_rest u₁ u₂ w h₁ h₂ l)
roll_rest u₁ u₂ (way_left w) h₁ h₂ l = left_order _ _ (rolled u₁ w h₁) (rolled u₂ w h₂) (roll_rest u₁ u₂ w h₁ h₂ l)
roll_rest u₁ u₂ (way_right w) h₁ h₂ l = right_order _ _ (rolled u₁ w h₁) (rolled u₂ w h₂) (roll_rest u₁ u₂ w h₁ h₂ l)
roll_rest u₁ u₂ (way_member w) h₁ h₂ l = member_order _ _ (rolled u₁ w h₁) (rolled u₂ w h₂) (roll_rest u₁ u₂ w h₁ h₂ l)

-- What is rolled up alike is alike.
merge_inj : {e f : Expr} {k : List Expr} {w w' : List ℕ} (c : Tree → Tree → Tree) (u u' : List Tree) → ((t s t' s' : Tree) → c t s ≡ c t' s' → (t ≡ t') × (s ≡ s'))
    → Begins e (f ∷ k) w u → Begins e (f ∷ k) w' u' → merge c u ≡ merge c u' → u ≡ u'
merge_inj c u u' inj (begins {t = t} h x (is_cons {t = s} h' hs) p) (begins {t = t'} i y (is_cons {t = s'} i' is') q) m =
    let n : c t s ≡ c t' s' = cc in let (a, b) = inj t s t' s' n in cc

on_first_inj : {e : Expr} {k : List Expr} {w w' : List ℕ} (g : Tree → Tree) (u u' : List Tree) → ((t t' : Tree) → g t ≡ g t' → t ≡ t')
    → Begins e k w u → Begins e k w' u' → on_first g u ≡ on_first g u' → u ≡ u'
on_first_inj g u u' inj (begins {t = t} h x hs p) (begins {t = t'} i y is' q) m =
    let n : g t ≡ g t' = cc in let a = inj t t' n in cc

second_inj : {f : Expr} {k : List Expr} {w w' : List ℕ} (u u' : List Tree) (s s' : Tree) → Begins f k w u → Begins f k w' u'
    → on_first (both s) u ≡ on_first (both s') u' → (s ≡ s') × (u ≡ u')
second_inj u u' s s' (begins h x hs p) (begins h' x' hs' p') m = (cc, cc)

module _ {e f : Expr} {k : List Expr} {w w' : List ℕ} where
  first≢second : (u u' : List Tree) (s : Tree) → Begins e (f ∷ k) w u → Parse e [] s → Begins f k w' u' → merge both u ≡ on_first (both s) u' → ⊥
  first≢second u u' s (begins {t = t} h x (is_cons h' hs) p) b (begins h'' x' hs' p') m = let n : t ≡ s = cc in nil_nonempty (ap spells n ∙ b.spelt) x

  left≢right : (u u' : List Tree) → Begins e k w u → Begins f k w' u' → on_first left u ≡ on_first right u' → ⊥
  left≢right u u' (begins h x hs p) (begins h' x' hs' p') m = let z : ◌≡◌ {A = ℕ} 0 1 = cc in omega arith

pub roll_unique : {e : Expr} {k k₁ k₂ : List Expr} {r₁ r₂ : Route} {a₁ a₂ : ℕ} (u₁ u₂ : List Tree) → Way e k r₁ a₁ k₁ → Way e k r₂ a₂ k₂ → TreesOf k₁ u₁ → TreesOf k₂ u₂
    → roll r₁ a₁ u₁ ≡ roll r₂ a₂ u₂ → (r₁ ≡ r₂) × (a₁ ≡ a₂) × (k₁ ≡ k₂) × (u₁ ≡ u₂)
roll_unique u₁ u₂ way_arrive way_arrive h₁ h₂ p = (refl, refl, refl, cc)
roll_unique u₁ u₂ (way_first w₁) (way_first w₂) h₁ h₂ p =
    let (x, y, z, v) = roll_unique u₁ u₂ w₁ w₂ h₁ h₂ (merge_inj both _ _ (λ t s t' s' q. (cc, cc)) (rolled u₁ w₁ h₁) (rolled u₂ w₂ h₂) p) in (cc, y, z, v)
roll_unique u₁ u₂ (way_first w₁) (way_second {s = t} b w₂) h₁ h₂ p = absurd (first≢second _ _ t (rolled u₁ w₁ h₁) b (rolled u₂ w₂ h₂) p)
roll_unique u₁ u₂ (way_second {s = t} b w₁) (way_first w₂) h₁ h₂ p = absurd (first≢second _ _ t (rolled u₂ w₂ h₂) b (rolled u₁ w₁ h₁) (sym p))
roll_unique u₁ u₂ (way_second {s = t₁} b w₁) (way_second {s = t₂} b' w₂) h₁ h₂ p =
    let (m, n) = second_inj _ _ t₁ t₂ (rolled u₁ w₁ h₁) (rolled u₂ w₂ h₂) p in
    let (x, y, z, v) = roll_unique u₁ u₂ w₁ w₂ h₁ h₂ n in (cc, y, z, v)
roll_unique u₁ u₂ (way_left w₁) (way_left w₂) h₁ h₂ p =
    let (x, y, z, v) = roll_unique u₁ u₂ w₁ w₂ h₁ h₂ (on_first_inj left _ _ (λ t t' q. cc) (rolled u₁ w₁ h₁) (rolled u₂ w₂ h₂) p) in (cc, y, z, v)
roll_unique u₁ u₂ (way_left w₁) (way_right w₂) h₁ h₂ p = absurd (left≢right _ _ (rolled u₁ w₁ h₁) (rolled u₂ w₂ h₂) p)
roll_unique u₁ u₂ (way_right w₁) (way_left w₂) h₁ h₂ p = absurd (left≢right _ _ (rolled u₂ w₂ h₂) (rolled u₁ w₁ h₁) (sym p))
roll_unique u₁ u₂ (way_right w₁) (way_right w₂) h₁ h₂ p =
    let (x, y, z, v) = roll_unique u₁ u₂ w₁ w₂ h₁ h₂ (on_first_inj right _ _ (λ t t' q. cc) (rolled u₁ w₁ h₁) (rolled u₂ w₂ h₂) p) in (cc, y, z, v)
roll_unique u₁ u₂ (way_member w₁) (way_member w₂) h₁ h₂ p =
    let (x, y, z, v) = roll_unique u₁ u₂ w₁ w₂ h₁ h₂ (merge_inj more _ _ (λ t s t' s' q. (cc, cc)) (rolled u₁ w₁ h₁) (rolled u₂ w₂ h₂) p) in (cc, y, z, v)
