-- What is computed part by part is what follows the places of the set.
use Rattle.std.proofs.Common.{◌≡◌, ℕ, zero, suc, ◌+◌, ◌-◌, ◌<◌, ◌≤◌, Bool, true, false, cond, ◌&&◌, ◌||◌, eqb, List, [], ◌∷◌, ◌++◌, length, get_or, sym, refl, ap, ◌∙◌, add-zero, arith, length-append, get_or-append-add, eq-eqb, ne_eqb}
use mathlib.Core.Bool.{or-false, and-true}
use native.Mathlib.Decide.{dec_lt}
use lib.ListN.{get_or-append, get_or-eq_default}
use Rattle.std.proofs.lemmas.Bool.Decides.{nat_tests}
use Rattle.expression.specs.Expressions.{Expr, letter, empty, pair, or, star, admits_empty}
use Rattle.expression.specs.Members.{any}
use Rattle.expression.specs.Places.{letter_count, codes, code, Item, item, continuations, continuation, all_admit_empty, heads, all_heads, follows, may_end}
use Rattle.std.specs.List.{range_with_len}
use Rattle.containment.specs.Stepping.{closes, comes, coded, places}

any_append : {A : Type 0} (f : A → Bool) (l m : List A) → any f (l ++ m) ≡ any f l || any f m
any_append f [] m = refl
any_append f (x ∷ l) m = rw (any_append f l m) (assoc (f x) (any f l) (any f m))
  where
    assoc : (x y z : Bool) → x || (y || z) ≡ (x || y) || z
    assoc true y z = refl
    assoc false y z = refl

any_cond : {A : Type 0} (f : A → Bool) (c : Bool) (l : List A) → any f (cond c l []) ≡ c && any f l
any_cond f true l = refl
any_cond f false l = refl

count : (o : ℕ) (e : Expr) (k : List Item) → length (continuations o e k) ≡ letter_count e
count o (letter a) k = refl
count o empty k = refl
count o (pair x y) k =
    length-append (continuations o x (item (o + letter_count x) y ∷ k)) _ ∙ rw (count o x (item (o + letter_count x) y ∷ k), count (o + letter_count x) y k)
count o (or x y) k = length-append (continuations o x k) _ ∙ rw (count o x k, count (o + letter_count x) y k)
count o (star x) k = count o x (item o (star x) ∷ k)

module _ (s : ℕ → Bool) where
  -- Does some place of the set, from suc o on, have a continuation that passes the test?
  abbrev some : (List Item → Bool) → ℕ → List (List Item) → Bool
  some f o [] = false
  some f o (c ∷ l) = (s (suc o) && f c) || some f (suc o) l

  some_append : (f : List Item → Bool) (o : ℕ) (l m : List (List Item)) → some f o (l ++ m) ≡ some f o l || some f (o + length l) m
  some_append f o [] m = ap (λ i. some f i m) (sym (add-zero o))
  some_append f o (c ∷ l) m = rw (some_append f (suc o) l m, shift) (assoc (s (suc o) && f c) (some f (suc o) l) (some f (suc o + length l) m))
    where
      assoc : (x y z : Bool) → x || (y || z) ≡ (x || y) || z
      assoc true y z = refl
      assoc false y z = refl

      shift : o + suc (length l) ≡ suc o + length l
      shift = omega arith

  closes_is : (o : ℕ) (e : Expr) (k : List Item) → some all_admit_empty o (continuations o e k) ≡ closes s o e && all_admit_empty k
  closes_is o (letter a) k = or-false _
  closes_is o empty k = refl
  closes_is o (pair x y) k =
      let k' = item (o + letter_count x) y ∷ k in
      some_append all_admit_empty o (continuations o x k') _
      ∙ rw (count o x k', closes_is o x k', closes_is (o + letter_count x) y k)
      (bools (closes s o x) (closes s (o + letter_count x) y) (admits_empty y) (all_admit_empty k))
    where
      bools : (x y e k : Bool) → (x && (e && k)) || (y && k) ≡ (y || (e && x)) && k
      bools x y e k = grind (arith, nat_tests)
  closes_is o (or x y) k =
      some_append all_admit_empty o (continuations o x k) _
      ∙ rw (count o x k, closes_is o x k, closes_is (o + letter_count x) y k) (bools (closes s o x) (closes s (o + letter_count x) y) (all_admit_empty k))
    where
      bools : (x y k : Bool) → (x && k) || (y && k) ≡ (x || y) && k
      bools x y k = grind (arith, nat_tests)
  closes_is o (star x) k = closes_is o x (item o (star x) ∷ k)

  module _ (q : ℕ) where
    abbrev head : ℕ → Expr → Bool
    head o e = any (eqb q) (heads o e)

    abbrev in_heads : List Item → Bool
    in_heads k = any (eqb q) (all_heads k)

    -- Does q follow a place of the set inside e, by a way inside e?
    abbrev inner : ℕ → Expr → Bool
    inner o (letter a) = false
    inner o empty = false
    inner o (pair x y) = (inner o x || (closes s o x && head (o + letter_count x) y)) || inner (o + letter_count x) y
    inner o (or x y) = inner o x || inner (o + letter_count x) y
    inner o (star x) = inner o x || (closes s o x && head o x)

    heads_cons : (o : ℕ) (e : Expr) (k : List Item) → in_heads (item o e ∷ k) ≡ head o e || (admits_empty e && in_heads k)
    heads_cons o e k = any_append (eqb q) (heads o e) _ ∙ rw any_cond

    head_pair : (o : ℕ) (x y : Expr) → head o (pair x y) ≡ head o x || (admits_empty x && head (o + letter_count x) y)
    head_pair o x y = any_append (eqb q) (heads o x) _ ∙ rw any_cond

    inner_is : (o : ℕ) (e : Expr) (k : List Item) → some in_heads o (continuations o e k) ≡ inner o e || (closes s o e && in_heads k)
    inner_is o (letter a) k = or-false _
    inner_is o empty k = refl
    inner_is o (pair x y) k =
        let k' = item (o + letter_count x) y ∷ k in
        some_append in_heads o (continuations o x k') _
        ∙ rw (count o x k', inner_is o x k', inner_is (o + letter_count x) y k, heads_cons (o + letter_count x) y k)
        (bools (inner o x) (closes s o x) (head (o + letter_count x) y) (admits_empty y) (in_heads k) (inner (o + letter_count x) y) (closes s (o + letter_count x) y))
      where
        bools : (ix cx hy ay k iy cy : Bool) → (ix || (cx && (hy || (ay && k)))) || (iy || (cy && k)) ≡ ((ix || (cx && hy)) || iy) || ((cy || (ay && cx)) && k)
        bools ix cx hy ay k iy cy = grind (arith, nat_tests)
    inner_is o (or x y) k =
        some_append in_heads o (continuations o x k) _
        ∙ rw (count o x k, inner_is o x k, inner_is (o + letter_count x) y k)
        (bools (inner o x) (closes s o x) (in_heads k) (inner (o + letter_count x) y) (closes s (o + letter_count x) y))
      where
        bools : (ix cx k iy cy : Bool) → (ix || (cx && k)) || (iy || (cy && k)) ≡ (ix || iy) || ((cx || cy) && k)
        bools ix cx k iy cy = grind (arith, nat_tests)
    inner_is o (star x) k =
        inner_is o x (item o (star x) ∷ k) ∙ rw (heads_cons o (star x) k) (bools (inner o x) (closes s o x) (head o x) (in_heads k))
      where
        bools : (i c h k : Bool) → i || (c && (h || k)) ≡ (i || (c && h)) || (c && k)
        bools i c h k = grind (arith, nat_tests)

    comes_is : (o : ℕ) (e : Expr) (r : Bool) → comes s o e r q ≡ (r && head o e) || inner o e
    comes_is o (letter a) r = bools r (eqb q (suc o))
      where
        bools : (r h : Bool) → r && h ≡ (r && (h || false)) || false
        bools r h = grind (arith, nat_tests)
    comes_is o empty true = refl
    comes_is o empty false = refl
    comes_is o (pair x y) r =
        rw (comes_is o x r, comes_is (o + letter_count x) y ((r && admits_empty x) || closes s o x), head_pair o x y)
        (bools r (head o x) (admits_empty x) (head (o + letter_count x) y) (closes s o x) (inner o x) (inner (o + letter_count x) y))
      where
        bools : (r hx ax hy cx ix iy : Bool) → ((r && hx) || ix) || ((((r && ax) || cx) && hy) || iy) ≡ (r && (hx || (ax && hy))) || ((ix || (cx && hy)) || iy)
        bools r hx ax hy cx ix iy = grind (arith, nat_tests)
    comes_is o (or x y) r =
        rw (comes_is o x r, comes_is (o + letter_count x) y r, any_append (eqb q) (heads o x) (heads (o + letter_count x) y))
        (bools r (head o x) (head (o + letter_count x) y) (inner o x) (inner (o + letter_count x) y))
      where
        bools : (r hx hy ix iy : Bool) → ((r && hx) || ix) || ((r && hy) || iy) ≡ (r && (hx || hy)) || (ix || iy)
        bools r hx hy ix iy = grind (arith, nat_tests)
    comes_is o (star x) r = rw (comes_is o x (r || closes s o x)) (bools r (closes s o x) (head o x) (inner o x))
      where
        bools : (r c h i : Bool) → ((r || c) && h) || i ≡ (r && h) || (i || (c && h))
        bools r c h i = grind (arith, nat_tests)

  -- By places, where c gives the members of the list.
  some_any : (f : List Item → Bool) (c : ℕ → List Item) (o : ℕ) (l : List (List Item)) → ((j : ℕ) → j < length l → c (suc (o + j)) ≡ get_or l j [])
      → some f o l ≡ any (λ p. s p && f (c p)) (range_with_len (suc o) (length l))
  some_any f c o [] h = refl
  some_any f c o (x ∷ l) h =
      let here : c (suc o) ≡ x = ap (λ i. c (suc i)) (sym (add-zero o)) ∙ h 0 (omega arith) in
      rw (here, some_any f c (suc o) l (λ j b. ap (λ i. c (suc i)) (shift j) ∙ h (suc j) (omega arith)), one)
    where
      one : suc o + 1 ≡ suc (suc o)
      one = omega arith

      shift : (j : ℕ) → suc o + j ≡ o + suc j
      shift j = omega arith

  -- The places after 0, by their continuations.
  by_place : (f : List Item → Bool) (e : Expr) → some f 0 (continuations 0 e []) ≡ any (λ p. s p && f (continuation e p)) (range_with_len 1 (letter_count e))
  by_place f e =
      some_any f (continuation e) 0 (continuations 0 e []) (λ j b. ap (λ i. get_or (continuations 0 e []) i []) (zero_plus j))
      ∙ ap (λ n. any (λ p. s p && f (continuation e p)) (range_with_len 1 n)) (count 0 e [])
    where
      zero_plus : (j : ℕ) → 0 + j ≡ j
      zero_plus j = omega arith

  pub ends_are : (e : Expr) → (s 0 && admits_empty e) || closes s 0 e ≡ any (λ p. s p && may_end e p) (places e)
  ends_are e =
      rw (← by_place all_admit_empty e, closes_is 0 e [], and-true (admits_empty e), and-true (closes s 0 e))

  pub follow_are : (e : Expr) (q : ℕ) → comes s 0 e (s 0) q ≡ any (λ p. s p && follows e p q) (places e)
  follow_are e q =
      comes_is q 0 e (s 0)
      ∙ rw (← by_place (in_heads q) e, inner_is q 0 e [], heads_cons q 0 e []) (bools (s 0) (head q 0 e) (inner q 0 e) (admits_empty e) (closes s 0 e))
    where
      bools : (r h i a c : Bool) → (r && h) || i ≡ (r && (h || (a && false))) || (i || (c && false))
      bools r h i a c = grind (arith, nat_tests)

-- Codes.
coded_before : (o : ℕ) (e : Expr) (q d : ℕ) → q ≤ o → coded o e q d ≡ d
coded_before o (letter a) q d h = ap (λ c. cond c a d) (ne_eqb q (suc o) (λ e. omega arith))
coded_before o empty q d h = refl
coded_before o (pair x y) q d h = rw (coded_before o x q d h, coded_before (o + letter_count x) y q d (omega arith))
coded_before o (or x y) q d h = rw (coded_before o x q d h, coded_before (o + letter_count x) y q d (omega arith))
coded_before o (star x) q d h = coded_before o x q d h

count_codes : (e : Expr) → length (codes e) ≡ letter_count e
count_codes (letter a) = refl
count_codes empty = refl
count_codes (pair x y) = length-append (codes x) _ ∙ rw (count_codes x, count_codes y)
count_codes (or x y) = length-append (codes x) _ ∙ rw (count_codes x, count_codes y)
count_codes (star x) = count_codes x

-- The second of two parts, whose codes stand after those of the first.
module _ (o j d : ℕ) (x y : Expr) (ihx : coded o x (suc (o + j)) d ≡ get_or (codes x) j d)
    (ihy : (i : ℕ) → coded (o + letter_count x) y (suc (o + letter_count x + i)) d ≡ get_or (codes y) i d) where
  coded_two : coded (o + letter_count x) y (suc (o + j)) (coded o x (suc (o + j)) d) ≡ get_or (codes x ++ codes y) j d
  coded_two =
      elim (dec_lt j (letter_count x)) [
        | yes l ↦
            let b : j < length (codes x) = omega (arith, l, count_codes x) in
            coded_before (o + letter_count x) y (suc (o + j)) _ (omega (arith, l)) ∙ ihx ∙ sym (get_or-append (codes x) (codes y) d j b)
        | no f ↦
            let g : letter_count x ≤ j = omega (arith, f) in
            let past : coded o x (suc (o + j)) d ≡ d = ihx ∙ get_or-eq_default (codes x) d (omega (arith, g, count_codes x)) in
            let at : suc (o + j) ≡ suc (o + letter_count x + (j - letter_count x)) = omega (arith, g) in
            let here : length (codes x) + (j - letter_count x) ≡ j = omega (arith, g, count_codes x) in
            ap (coded (o + letter_count x) y (suc (o + j))) past ∙ ap (λ q. coded (o + letter_count x) y q d) at ∙ ihy (j - letter_count x)
            ∙ sym (get_or-append-add (codes x) (codes y) (j - letter_count x) d) ∙ ap (λ i. get_or (codes x ++ codes y) i d) here
      ]

coded_is : (o : ℕ) (e : Expr) (j d : ℕ) → coded o e (suc (o + j)) d ≡ get_or (codes e) j d
coded_is o (letter a) zero d = ap (λ c. cond c a d) (eq-eqb (suc (o + 0)) (suc o) (omega arith))
coded_is o (letter a) (suc j) d = ap (λ c. cond c a d) (ne_eqb (suc (o + suc j)) (suc o) (λ e. omega arith))
coded_is o empty j d = refl
coded_is o (pair x y) j d = coded_two o j d x y (coded_is o x j d) (λ i. coded_is (o + letter_count x) y i d)
coded_is o (or x y) j d = coded_two o j d x y (coded_is o x j d) (λ i. coded_is (o + letter_count x) y i d)
coded_is o (star x) j d = coded_is o x j d

pub codes_are : (e : Expr) (q : ℕ) → coded 0 e q 0 ≡ code e q
codes_are e zero = coded_before 0 e 0 0 (omega arith)
codes_are e (suc j) = let z : suc j ≡ suc (0 + j) = omega arith in ap (λ q. coded 0 e q 0) z ∙ coded_is 0 e j 0
