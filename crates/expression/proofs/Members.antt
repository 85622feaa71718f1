-- Facts of the members of a list.
use Rattle.std.proofs.Common.{◌≡◌, ℕ, zero, suc, Bool, true, false, cond, ◌||◌, eqb, List, [], ◌∷◌, ◌++◌, get_or, sym, refl, ap, ◌∙◌, eq-eqb, eqb-true}
use Prim.{tt}
use mathlib.Core.Bool.{or-true}
use borrow.Author.Tests.{clash}
use Rattle.expression.specs.Members.{any, Each}

module _ {A : Type 0} (P : A → Type 0) where
  pub each_append : (l m : List A) → Each P l → Each P m → Each P (l ++ m)
  each_append [] m f g = g
  each_append (x ∷ l) m f g = (f.0, each_append l m f.1 g)

  pub each_cond : (b : Bool) (l : List A) → Each P l → Each P (cond b l [])
  each_cond true l f = f
  each_cond false l f = tt

  pub each_at : (d : A) (l : List A) (j : ℕ) → P d → Each P l → P (get_or l j d)
  each_at d [] j p f = p
  each_at d (x ∷ l) zero p f = f.0
  each_at d (x ∷ l) (suc j) p f = each_at d l j p f.1

-- A number in a list, told by a test.
pub each_any : (P : ℕ → Type 0) (q : ℕ) (l : List ℕ) → Each P l → any (eqb q) l ≡ true → P q
each_any P q [] f p = absurd (clash p)
each_any P q (x ∷ l) f p = go (eqb q x) refl p (each_any P q l f.1)
  where
    go : (b : Bool) → eqb q x ≡ b → b || any (eqb q) l ≡ true → (any (eqb q) l ≡ true → P q) → P q
    go true e p ih = rw (eqb-true q x e) f.0
    go false e p ih = ih p

pub any_found : (f : ℕ → Bool) (l : List ℕ) → any f l ≡ true → (q : ℕ) × (any (eqb q) l ≡ true) × (f q ≡ true)
any_found f [] p = absurd (clash p)
any_found f (x ∷ l) p = go (f x) refl p (any_found f l)
  where
    go : (b : Bool) → f x ≡ b → b || any f l ≡ true → (any f l ≡ true → (q : ℕ) × (any (eqb q) l ≡ true) × (f q ≡ true))
        → (q : ℕ) × (any (eqb q) (x ∷ l) ≡ true) × (f q ≡ true)
    go true e p ih = (x, ap (λ b. b || any (eqb x) l) (eq-eqb x x refl), e)
    go false e p ih = let (q, m, r) = ih p in (q, ap (λ b. eqb q x || b) m ∙ or-true (eqb q x), r)

pub any_holds : (f : ℕ → Bool) (q : ℕ) (l : List ℕ) → any (eqb q) l ≡ true → f q ≡ true → any f l ≡ true
any_holds f q [] m p = absurd (clash m)
any_holds f q (x ∷ l) m p = go (eqb q x) refl m (any_holds f q l)
  where
    go : (b : Bool) → eqb q x ≡ b → b || any (eqb q) l ≡ true → (any (eqb q) l ≡ true → f q ≡ true → any f l ≡ true) → f x || any f l ≡ true
    go true e m ih = ap (λ b. b || any f l) (ap f (sym (eqb-true q x e)) ∙ p)
    go false e m ih = ap (λ b. f x || b) (ih m p) ∙ or-true (f x)
