-- The fields of checked nodes.
use Rattle.std.proofs.Common.{◌≡◌, ℕ, zero, suc, ◌+◌, ◌-◌, ◌<◌, ◌≤◌, Bool, true, false, cond, ◌&&◌, ◌||◌, eqb, ltb, List, length, take, Some, None, sym, refl, ap, ◌∙◌, subst, ap₂, add-zero, arith, ltb-true, ne_eqb}
use borrow.Author.Tests.{eqb-false}
use Rattle.std.proofs.lemmas.List.{length-take-le, get_or-take}
use Rattle.std.specs.Option.{option_map}
use Rattle.expression.specs.declared.node.Node.{Node}
use Rattle.expression.specs.declared.node.Shape.{Shape}
use Rattle.expression.specs.declared.node.Shape.TheVariants as shape
use Rattle.expression.specs.declared.raw.RawNode.{RawNode}
use Rattle.expression.specs.declared.raw.RawNode.TheVariants.{Letter, Empty, Pair, Or, Star, Unknown}
use Rattle.expression.specs.Fitted.{Two, One, Shaped, letters_to, Fitted}
use Rattle.expression.specs.Tables.{letter_count}
use Rattle.expression.specs.Making.{letters_of, leaf, over, last_one, last_two, next_node, Laid}
use Rattle.expression.specs.Nodes.{admits_at, admits_by, raw_shape, no_node, node, last, raw_of}

when : {A : Type 0} (b : Bool) (x y : A) → cond b (Some x) None ≡ Some y → (b ≡ true) × (x ≡ y)
when true x y e = (refl, cc)
when false x y e = let z : ◌≡◌ {A = ℕ} 0 1 = cc in absurd (omega arith)

some_is : {A : Type 0} (x y : A) → Some x ≡ Some y → x ≡ y
some_is x y e = cc

pub pos : (n : ℕ) → eqb n 0 ≡ false → 0 < n
pos n e = let d = eqb-false n 0 e in omega (arith, d)

-- What a checked node was made of, by its raw form.
abbrev MadeTwo : List Node → (ℕ → ℕ → Shape) → Node → Type 0
MadeTwo ns s n = (0 < length ns) × (0 < (node ns (last ns)).start) × (over ns (s ((node ns (last ns)).start - 1) (last ns)) ((node ns (last ns)).start - 1) ≡ n)

abbrev pub Made : List Node → RawNode → Node → Type 0
Made ns (Letter c) n = (letters_of ns < 128) × (leaf ns (shape.Letter c) (letters_of ns + 1) ≡ n)
Made ns Empty n = leaf ns shape.Empty (letters_of ns) ≡ n
Made ns Pair n = MadeTwo ns shape.Pair n
Made ns Or n = MadeTwo ns shape.Or n
Made ns Star n = (0 < length ns) × (over ns (shape.Star (last ns)) (last ns) ≡ n)
Made ns (Unknown k) n = ⊥

made_one : (ns : List Node) (n : Node) → option_map (λ j. over ns (shape.Star j) j) (last_one ns) ≡ Some n → Made ns Star n
made_one ns n e = by (eqb (length ns) 0) refl e
  where
    by : (b : Bool) → eqb (length ns) 0 ≡ b → option_map (λ j. over ns (shape.Star j) j) (cond b None (Some (last ns))) ≡ Some n → Made ns Star n
    by true p q = let z : ◌≡◌ {A = ℕ} 0 1 = cc in absurd (omega arith)
    by false p q = (pos _ p, some_is _ _ q)

made_two : (ns : List Node) (s : ℕ → ℕ → Shape) (n : Node) → option_map (λ (p : ℕ × ℕ). over ns (s p.0 p.1) p.0) (last_two ns) ≡ Some n → MadeTwo ns s n
made_two ns s n e = by (eqb (length ns) 0) (eqb (node ns (last ns)).start 0) refl refl e
  where
    by : (b d : Bool) → eqb (length ns) 0 ≡ b → eqb (node ns (last ns)).start 0 ≡ d
        → option_map (λ (p : ℕ × ℕ). over ns (s p.0 p.1) p.0) (cond b None (cond d None (Some ((node ns (last ns)).start - 1, last ns)))) ≡ Some n → MadeTwo ns s n
    by true d p q r = let z : ◌≡◌ {A = ℕ} 0 1 = cc in absurd (omega arith)
    by false true p q r = let z : ◌≡◌ {A = ℕ} 0 1 = cc in absurd (omega arith)
    by false false p q r = (pos _ p, pos _ q, some_is _ _ r)

pub made : (ns : List Node) (r : RawNode) (n : Node) → next_node ns r ≡ Some n → Made ns r n
made ns (Letter c) n e = let t = when (ltb (letters_of ns) 128) _ n e in (ltb-true _ _ t.0, t.1)
made ns Empty n e = some_is _ _ e
made ns Pair n e = made_two ns shape.Pair n e
made ns Or n e = made_two ns shape.Or n e
made ns Star n e = made_one ns n e
made ns (Unknown k) n e = let z : ◌≡◌ {A = ℕ} 0 1 = cc in absurd (omega arith)

pub raw_made : (ns : List Node) (r : RawNode) (n : Node) → Made ns r n → raw_of n ≡ r
raw_made ns (Letter c) n m = ap raw_of (sym m.1)
raw_made ns Empty n m = ap raw_of (sym m)
raw_made ns Pair n m = ap raw_of (sym m.2)
raw_made ns Or n m = ap raw_of (sym m.2)
raw_made ns Star n m = ap raw_of (sym m.1)
raw_made ns (Unknown k) n m = absurd m

-- The front of the nodes, read as the nodes themselves.
module _ (ns : List Node) (i : ℕ) (h : i ≤ length ns) where
  front_long : length (take i ns) ≡ i
  front_long = length-take-le i ns h

  front_node : (j : ℕ) → j < i → node (take i ns) j ≡ node ns j
  front_node j l = get_or-take i ns j no_node l

pub letters_at : (xs ns : List Node) (i : ℕ) → length xs ≡ i → ((j : ℕ) → j < i → node xs j ≡ node ns j) → letters_of xs ≡ letters_to ns i
letters_at xs ns zero e same = rw e
letters_at xs ns (suc i) e same =
    let z : suc i - 1 ≡ i = omega arith in
    let d : eqb (suc i) 0 ≡ false = ne_eqb (suc i) 0 (omega arith) in
    rw (e, d, z) (ap (λ n. n.letters) (same i (omega arith)))

-- A node made of a front of the nodes fits after it.
module _ (xs ns : List Node) (i : ℕ) (long : length xs ≡ i) (same : (j : ℕ) → j < i → node xs j ≡ node ns j)
    (low : (j : ℕ) → j < i → (node ns j).start ≤ j) (few : letters_to ns i ≤ 128) where
  counted : letters_of xs ≡ letters_to ns i
  counted = letters_at xs ns i long same

  fits_leaf : (s : Shape) (k : ℕ) → (length xs ≡ i → Shaped ns i (leaf xs s k) s) → admits_by (admits_at xs) s ≡ admits_by (admits_at ns) s → k ≡ letters_to ns i + letter_count (raw_shape s) → k ≤ 128 → Fitted ns i (leaf xs s k)
  fits_leaf s k shapes by count small = record { shaped = shapes long; low = omega arith; admits = by; letters = count; few = small }

  fits_over : (s : Shape) (j : ℕ) → j < i → Shaped ns i (over xs s j) s → admits_by (admits_at xs) s ≡ admits_by (admits_at ns) s → letter_count (raw_shape s) ≡ 0 → Fitted ns i (over xs s j)
  fits_over s j l sh by none =
      let d = low j l in
      record {
        shaped = sh;
        low = rw same (omega arith);
        admits = by;
        letters = rw none (counted ∙ sym (add-zero _));
        few = omega (arith, counted);
      }

  fits_two : (s : ℕ → ℕ → Shape) (n : Node) → ((j k : ℕ) (x : Node) → Two ns i x j k → Shaped ns i x (s j k))
      → ((j k : ℕ) → admits_at xs j ≡ admits_at ns j → admits_at xs k ≡ admits_at ns k → admits_by (admits_at xs) (s j k) ≡ admits_by (admits_at ns) (s j k))
      → ((j k : ℕ) → letter_count (raw_shape (s j k)) ≡ 0) → MadeTwo xs s n → Fitted ns i n
  fits_two s n shapes by none m =
      let k : last xs < i = omega arith in
      let e = ap (λ x. x.start) (same (last xs) k) in
      let d = low (last xs) k in
      let j = (node xs (last xs)).start - 1 in
      let f : j < i = omega arith in
      let t : Two ns i (over xs (s j (last xs)) j) j (last xs) = record { second = omega arith; first = omega arith; start = ap (λ x. x.start) (same j f) } in
      subst (Fitted ns i) m.2
      (fits_over (s j (last xs)) j f (shapes j (last xs) _ t) (by j (last xs) (ap (λ x. x.admits) (same j f)) (ap (λ x. x.admits) (same (last xs) k))) (none j (last xs)))

  pub fits_made : (r : RawNode) (n : Node) → Made xs r n → Fitted ns i n
  fits_made (Letter c) n m = subst (Fitted ns i) m.1 (fits_leaf (shape.Letter c) _ (λ e. e) refl (ap (λ k. k + 1) counted) (omega (arith, m.0)))
  fits_made Empty n m = subst (Fitted ns i) m (fits_leaf shape.Empty _ (λ e. e) refl (counted ∙ sym (add-zero _)) (omega (arith, counted)))
  fits_made Pair n m = fits_two shape.Pair n (λ j k x t. t) (λ j k p q. ap₂ ◌&&◌ p q) (λ j k. refl) m
  fits_made Or n m = fits_two shape.Or n (λ j k x t. t) (λ j k p q. ap₂ ◌||◌ p q) (λ j k. refl) m
  fits_made Star n m =
      let k : last xs < i = omega arith in
      let t : One ns i (over xs (shape.Star (last xs)) (last xs)) (last xs) = record { child = omega arith; start = ap (λ x. x.start) (same (last xs) k) } in
      subst (Fitted ns i) m.1 (fits_over (shape.Star (last xs)) (last xs) k t refl refl)
  fits_made (Unknown k) n m = absurd m

-- Each node of a checked table fits.
module _ (ns : List Node) (laid : Laid ns) where
  pub few_to : (i : ℕ) → ((j : ℕ) → j < i → Fitted ns j (node ns j)) → letters_to ns i ≤ 128
  few_to zero fits = omega arith
  few_to (suc i) fits = (fits i (omega arith)).few

  fitted_below : (k i : ℕ) → i < k → i < length ns → Fitted ns i (node ns i)
  fitted_below zero i l h = absurd (omega arith)
  fitted_below (suc k) i l h =
      let b : i ≤ length ns = omega arith in
      let fits : (j : ℕ) → j < i → Fitted ns j (node ns j) = λ j m. fitted_below k j (omega arith) (omega arith) in
      fits_made (take i ns) ns i (front_long ns i b) (front_node ns i b) (λ j m. (fits j m).low) (few_to i fits) (raw_of (node ns i)) (node ns i)
      (made (take i ns) (raw_of (node ns i)) (node ns i) (laid i h))

  pub fitted : (i : ℕ) → i < length ns → Fitted ns i (node ns i)
  fitted i h = fitted_below (suc i) i (omega arith) h
