-- Members of lists, and tests over them.
use Rattle.std.proofs.Common.{◌≡◌, ℕ, zero, suc, ◌+◌, ◌<◌, ◌≤◌, Bool, true, false, cond, eqb, ◌⊎◌, List, [], ◌∷◌, ◌++◌, map, length, get_or, sym, refl, ap, ◌∙◌, inl, inr, arith, eqb-true}
use Rattle.std.proofs.lemmas.Bool.{and_parts, and_from, and_cases, or_cases, or_left, or_right}
use native.Mathlib.Decide.{ℕ_discrete}
use Rattle.std.proofs.lemmas.List.Sums.{sum_by-cons}
use borrow.Author.Tests.{clash}
pub use Rattle.expression.specs.Members.{any}
use Rattle.containment.specs.Rows.{Among}
pub use Rattle.std.specs.List.{list_all, range_with_len, filter, count_by}

-- The numbers from i on.
pub from_in : (n i q : ℕ) → i ≤ q → q < i + n → Among q (range_with_len i n)
from_in zero i q h l = absurd (omega arith)
from_in (suc n) i q h l =
    elim (ℕ_discrete q i) [ yes e ↦ inl e | no ne ↦ inr (from_in n (i + 1) q (omega arith) (omega arith)) ]

pub from_range : (n i : ℕ) (q : ℕ) → Among q (range_with_len i n) → (i ≤ q) × (q < i + n)
from_range zero i q m = absurd m
from_range (suc n) i q (inl e) = (omega arith, omega arith)
from_range (suc n) i q (inr m) = let (l, h) = from_range n (i + 1) q m in (omega arith, omega arith)

pub member_in : (q : ℕ) (l : List ℕ) → any (eqb q) l ≡ true → Among q l
member_in q [] h = absurd (clash h)
member_in q (x ∷ l) h = elim (or_cases (eqb q x) (any (eqb q) l) h) [ inl t ↦ inl (eqb-true q x t) | inr t ↦ inr (member_in q l t) ]

bits : (x y : Bool) → (y ≡ true → x ≡ true) → (cond y 1 0 ≤ cond x 1 0) × ((x ≡ true → y ≡ true) ⊎ (cond y 1 0 < cond x 1 0))
bits true true h = (omega arith, inl (λ t. t))
bits true false h = (omega arith, inr (omega arith))
bits false true h = absurd (clash (h refl))
bits false false h = (omega arith, inl (λ t. t))

module _ {A : Type 0} where
  pub any_some : (f : A → Bool) (l : List A) → any f l ≡ true → (x : A) × Among x l × (f x ≡ true)
  any_some f [] h = absurd (clash h)
  any_some f (x ∷ l) h =
      elim (or_cases (f x) (any f l) h) [
        | inl t ↦ (x, inl refl, t)
        | inr t ↦ let (y, m, fy) = any_some f l t in (y, inr m, fy)
      ]

  pub any_in : (f : A → Bool) (l : List A) (x : A) → Among x l → f x ≡ true → any f l ≡ true
  any_in f [] x m t = absurd m
  any_in f (y ∷ l) x (inl e) t = or_left (f y) (any f l) (ap f (sym e) ∙ t)
  any_in f (y ∷ l) x (inr m) t = or_right (f y) (any f l) (any_in f l x m t)

  pub all_each : (f : A → Bool) (l : List A) → list_all f l ≡ true → (x : A) → Among x l → f x ≡ true
  all_each f [] h x m = absurd m
  all_each f (y ∷ l) h x (inl e) = ap f e ∙ (and_parts (f y) (list_all f l) h).0
  all_each f (y ∷ l) h x (inr m) = all_each f l (and_parts (f y) (list_all f l) h).1 x m

  pub each_all : (f : A → Bool) (l : List A) → ((x : A) → Among x l → f x ≡ true) → list_all f l ≡ true
  each_all f [] h = refl
  each_all f (y ∷ l) h = and_from (f y) (list_all f l) (h y (inl refl)) (each_all f l (λ x m. h x (inr m)))

  pub not_all : (f : A → Bool) (l : List A) → list_all f l ≡ false → (x : A) × Among x l × (f x ≡ false)
  not_all f [] h = absurd (clash (sym h))
  not_all f (x ∷ l) h =
      elim (and_cases (f x) (list_all f l) h) [
        | inl t ↦ (x, inl refl, t)
        | inr t ↦ let (y, m, fy) = not_all f l t in (y, inr m, fy)
      ]

  in_cond : (c : Bool) (x y : A) (l : List A) → (x ≡ y → c ≡ true) → Among x (y ∷ l) → Among x (cond c (y ∷ l) l)
  in_cond true x y l h m = m
  in_cond false x y l h (inl e) = absurd (clash (h e))
  in_cond false x y l h (inr m) = m

  of_cond : (c : Bool) (x y : A) (l : List A) → Among x (cond c (y ∷ l) l) → ((c ≡ true) × (x ≡ y)) ⊎ Among x l
  of_cond true x y l (inl e) = inl (refl, e)
  of_cond true x y l (inr m) = inr m
  of_cond false x y l m = inr m

  pub filter_in : (f : A → Bool) (l : List A) (x : A) → Among x l → f x ≡ true → Among x (filter f l)
  filter_in f [] x m t = m
  filter_in f (y ∷ l) x (inl e) t = in_cond (f y) x y (filter f l) (λ e. ap f (sym e) ∙ t) (inl e)
  filter_in f (y ∷ l) x (inr m) t = in_cond (f y) x y (filter f l) (λ e. ap f (sym e) ∙ t) (inr (filter_in f l x m t))

  pub filter_was : (f : A → Bool) (l : List A) (x : A) → Among x (filter f l) → Among x l × (f x ≡ true)
  filter_was f [] x m = absurd m
  filter_was f (y ∷ l) x m =
      elim (of_cond (f y) x y (filter f l) m) [
        | inl h ↦ (inl h.1, ap f h.1 ∙ h.0)
        | inr n ↦ let (k, t) = filter_was f l x n in (inr k, t)
      ]

  extend :
      (f g : A → Bool) (y : A) (l : List A) →
      (f y ≡ true → g y ≡ true) →
      ((x : A) → Among x l → f x ≡ true → g x ≡ true) →
      (x : A) → Among x (y ∷ l) → f x ≡ true → g x ≡ true
  extend f g y l here rest x (inl e) t = ap g e ∙ here (ap f (sym e) ∙ t)
  extend f g y l here rest x (inr m) t = rest x m t

  -- A narrower test passes as often only where it passes the same.
  pub shrinks :
      (f g : A → Bool) →
      ((x : A) → g x ≡ true → f x ≡ true) →
      (l : List A) →
      (count_by g l ≤ count_by f l) × (((x : A) → Among x l → f x ≡ true → g x ≡ true) ⊎ (count_by g l < count_by f l))
  shrinks f g sub [] = (omega arith, inl (λ x m t. absurd m))
  shrinks f g sub (y ∷ l) =
      let (le, rest) = shrinks f g sub l in
      let (le₁, here) = bits (f y) (g y) (sub y) in
      let cf = sum_by-cons (λ x. cond (f x) 1 0) y l in
      let cg = sum_by-cons (λ x. cond (g x) 1 0) y l in (
        omega arith,
        elim here [
          | inr lt ↦ inr (omega arith)
          | inl same ↦ elim rest [ inr lt ↦ inr (omega arith) | inl each ↦ inl (extend f g y l same each) ]
        ],
      )

  pub in_left : (l m : List A) (x : A) → Among x l → Among x (l ++ m)
  in_left [] m x h = absurd h
  in_left (z ∷ l) m x (inl e) = inl e
  in_left (z ∷ l) m x (inr h) = inr (in_left l m x h)

  pub in_right : (l m : List A) (x : A) → Among x m → Among x (l ++ m)
  in_right [] m x h = h
  in_right (z ∷ l) m x h = inr (in_right l m x h)

  pub of_append : (l m : List A) (x : A) → Among x (l ++ m) → Among x l ⊎ Among x m
  of_append [] m x h = inr h
  of_append (z ∷ l) m x (inl e) = inl (inl e)
  of_append (z ∷ l) m x (inr h) = elim (of_append l m x h) [ inl k ↦ inl (inr k) | inr k ↦ inr k ]

  -- Members by number.
  pub nth_in : (d : A) (l : List A) (n : ℕ) → n < length l → Among (get_or l n d) l
  nth_in d [] n h = absurd (omega arith)
  nth_in d (x ∷ l) zero h = inl refl
  nth_in d (x ∷ l) (suc n) h = inr (nth_in d l n (omega arith))

  pub in_nth : (d : A) (l : List A) (x : A) → Among x l → (n : ℕ) × (n < length l) × (get_or l n d ≡ x)
  in_nth d [] x m = absurd m
  in_nth d (y ∷ l) x (inl e) = (0, omega arith, sym e)
  in_nth d (y ∷ l) x (inr m) = let (n, h, e) = in_nth d l x m in (suc n, omega arith, e)

module _ {A B : Type 0} where
  pub in_map : (f : A → B) (l : List A) (x : A) → Among x l → Among (f x) (map f l)
  in_map f [] x m = absurd m
  in_map f (z ∷ l) x (inl e) = inl (ap f e)
  in_map f (z ∷ l) x (inr m) = inr (in_map f l x m)

  pub of_map : (f : A → B) (l : List A) (y : B) → Among y (map f l) → (x : A) × Among x l × (y ≡ f x)
  of_map f [] y m = absurd m
  of_map f (z ∷ l) y (inl e) = (z, inl refl, e)
  of_map f (z ∷ l) y (inr m) = let (x, k, e) = of_map f l y m in (x, inr k, e)
