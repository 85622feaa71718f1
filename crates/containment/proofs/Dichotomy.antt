-- Either there are rows that keep the rules, or a word that refutes; never both.
use Rattle.std.proofs.Common.{◌≡◌, ℕ, zero, suc, ◌+◌, ◌≤◌, Bool, true, false, cond, ◌&&◌, eqb, List, [], ◌∷◌, ◌++◌, map, sym, refl, subst, inl, inr, arith, eq-eqb, eqb-true}
use Rattle.std.proofs.lemmas.Bool.{and_parts, and_from, and_cases, cases_Bool, both_ways}
use Prim.{tt}
use borrow.Author.Tests.{clash}
use Rattle.expression.specs.Expressions.{Expr}
use Rattle.expression.specs.Places.{letter_count, code, follows, may_end, finishes}
use Rattle.expression.proofs.PlaceTheorems.{automaton, finishing}
use Rattle.containment.specs.Rows.{Row, row, Among, Rises, Ranged}
use Rattle.containment.specs.Rules.{Ends, Serves, GoesOn, Keeps}
use Rattle.containment.specs.Refuting.{Refutes}
use Rattle.containment.specs.Theorems.{RowsOrWord}
use Rattle.containment.specs.Checking.{if_then, stepped, ends_too}
use Rattle.containment.proofs.Booleans.{apply, applied, broken}
use Rattle.containment.proofs.Lists.{any, list_all, range_with_len, from_in, from_range, filter, count_by, any_some, any_in, all_each, each_all, not_all, filter_in, filter_was, shrinks, in_left, in_right, of_append, in_map, of_map}
use Rattle.containment.proofs.Sound.{sound}

-- The sublists of a list.
abbrev subs : {A : Type 0} → List A → List (List A)
subs [] = [] ∷ []
subs (x ∷ l) = map (λ s. x ∷ s) (subs l) ++ subs l

subs_nil : {A : Type 0} (l : List A) → Among [] (subs l)
subs_nil [] = inl refl
subs_nil (x ∷ l) = in_right (map (λ s. x ∷ s) (subs l)) (subs l) [] (subs_nil l)

subs_filter : {A : Type 0} (f : A → Bool) (l : List A) → Among (filter f l) (subs l)
subs_filter f [] = inl refl
subs_filter f (x ∷ l) = go (f x) (subs_filter f l)
  where
    go : (c : Bool) → Among (filter f l) (subs l) → Among (cond c (x ∷ filter f l) (filter f l)) (subs (x ∷ l))
    go true ih = in_left (map (λ s. x ∷ s) (subs l)) (subs l) (x ∷ filter f l) (in_map (λ s. x ∷ s) (subs l) (filter f l) ih)
    go false ih = in_right (map (λ s. x ∷ s) (subs l)) (subs l) (filter f l) ih

rises_less : (least most : ℕ) (l : List ℕ) → Rises (suc least) most l → Rises least most l
rises_less least most [] h = tt
rises_less least most (q ∷ l) h = (omega arith, h.1, h.2)

subs_rise : (n i k : ℕ) → i + n ≤ suc k → (s : List ℕ) → Among s (subs (range_with_len i n)) → Rises i k s
subs_rise zero i k h s (inl e) = subst (λ (v : List ℕ). Rises i k v) (sym e) tt
subs_rise zero i k h s (inr m) = absurd m
subs_rise (suc n) i k h s m =
    let one : i + 1 ≡ suc i = omega arith in
    let next = λ (t : List ℕ) (u : Among t (subs (range_with_len (i + 1) n))). subst (λ v. Rises v k t) one (subs_rise n (i + 1) k (omega arith) t u) in
    elim (of_append (map (λ s. i ∷ s) (subs (range_with_len (i + 1) n))) (subs (range_with_len (i + 1) n)) s m) [
      | inl j ↦
          let (t, u, e) = of_map (λ s. i ∷ s) (subs (range_with_len (i + 1) n)) s j in
          subst (λ (v : List ℕ). Rises i k v) (sym e) (omega arith, omega arith, next t u)
      | inr j ↦ rises_less i k s (next s j)
    ]

-- Every row of a place and a set.
abbrev grid : List ℕ → List (List ℕ) → List Row
grid [] sets = []
grid (p ∷ ps) sets = map (row p) sets ++ grid ps sets

in_grid : (ps : List ℕ) (sets : List (List ℕ)) (p : ℕ) (s : List ℕ) → Among p ps → Among s sets → Among (row p s) (grid ps sets)
in_grid [] sets p s m k = absurd m
in_grid (z ∷ ps) sets p s (inl e) k =
    in_left (map (row z) sets) (grid ps sets) (row p s) (subst (λ (v : ℕ). Among (row p s) (map (row v) sets)) e (in_map (row p) sets s k))
in_grid (z ∷ ps) sets p s (inr m) k = in_right (map (row z) sets) (grid ps sets) (row p s) (in_grid ps sets p s m k)

of_grid : (ps : List ℕ) (sets : List (List ℕ)) (r : Row) → Among r (grid ps sets) → Among r.place ps × Among r.set sets
of_grid [] sets r m = absurd m
of_grid (z ∷ ps) sets r m =
    elim (of_append (map (row z) sets) (grid ps sets) r m) [
      | inl k ↦
          let (s, j, e) = of_map (row z) sets r k in
          (inl (λ i. (e i).place), subst (λ (v : List ℕ). Among v sets) (λ i. (sym e i).set) j)
      | inr k ↦ let (x, y) = of_grid ps sets r k in (inr x, y)
    ]

abbrev places : Expr → List ℕ
places e = range_with_len 0 (suc (letter_count e))

in_places : (e : Expr) (p q : ℕ) → follows e p q ≡ true → Among q (places e)
in_places e p q h = let (l, m) = automaton.within e p q h in from_in (suc (letter_count e)) 0 q (omega arith) (omega arith)

-- The places of b that have the code c and follow one of s.
abbrev post : Expr → ℕ → List ℕ → List ℕ
post b c s = filter (stepped b c s) (places b)

module _ (a b : Expr) where
  abbrev next : Row → ℕ → Row
  next r f = row f (post b (code a f) r.set)

  abbrev goes : (Row → Bool) → Row → ℕ → Bool
  goes good r f = if_then (follows a r.place f) (good (next r f))

  -- No word shorter than n shows that the row's place finishes more than its set does.
  abbrev alive : ℕ → Row → Bool
  alive zero r = true
  alive (suc n) r = ends_too a b r && list_all (goes (alive n) r) (places a)

  falls : (n : ℕ) (r : Row) → alive (suc n) r ≡ true → alive n r ≡ true
  falls zero r t = refl
  falls (suc n) r t =
      and_from (ends_too a b r) (list_all (goes (alive n) r) (places a))
      (and_parts (ends_too a b r) (list_all (goes (alive (suc n)) r) (places a)) t).0
      (
      each_all (goes (alive n) r) (places a) λ f m.
      applied (follows a r.place f) (alive n (next r f)) λ fol.
      falls n (next r f)
      (
      apply (follows a r.place f) (alive (suc n) (next r f))
      (all_each (goes (alive (suc n)) r) (places a) (and_parts (ends_too a b r) (list_all (goes (alive (suc n)) r) (places a)) t).1 f m)
      fol
      )
      )

  -- The set that is stepped to has every place that it should, and no other.
  in_post : (c : ℕ) (s : List ℕ) (p q : ℕ) → Among p s → follows b p q ≡ true → code b q ≡ c → Among q (post b c s)
  in_post c s p q m fol e =
      filter_in (stepped b c s) (places b) q (in_places b p q fol)
      (and_from (eqb (code b q) c) (any (λ p. follows b p q) s) (eq-eqb (code b q) c e) (any_in (λ p. follows b p q) s p m fol))

  post_serves : (r : Row) (f : ℕ) → Serves a b r f (next r f)
  post_serves r f = record {
    place = refl;
    coded = λ q m. eqb-true (code b q) (code a f) (and_parts (eqb (code b q) (code a f)) (any (λ p. follows b p q) r.set) (was q m)).0;
    reached = λ q m. any_some (λ p. follows b p q) r.set (and_parts (eqb (code b q) (code a f)) (any (λ p. follows b p q) r.set) (was q m)).1;
  }
    where
      was : (q : ℕ) → Among q (post b (code a f) r.set) → stepped b (code a f) r.set q ≡ true
      was q m = (filter_was (stepped b (code a f) r.set) (places b) q m).1

  -- A word for a row that is not alive.
  word :
      (n : ℕ) (r : Row) →
      alive n r ≡ false →
      (w : List ℕ) × (finishes a w r.place ≡ true) × ((s : ℕ) → Among s r.set → finishes b w s ≡ true → ⊥)
  word zero r t = absurd (clash (sym t))
  word (suc n) r t =
      elim (and_cases (ends_too a b r) (list_all (goes (alive n) r) (places a)) t) [
        | inl e ↦
            let (ea, nb) = broken (may_end a r.place) (any (may_end b) r.set) e in
            ([], ea, λ s m fin. both_ways (any (may_end b) r.set) nb (any_in (may_end b) r.set s m fin))
        | inr g ↦
            let (f, m, x) = not_all (goes (alive n) r) (places a) g in
            let (fol, dead) = broken (follows a r.place f) (alive n (next r f)) x in
            let (w, fin, none) = word n (next r f) dead in (
              code a f ∷ w,
              (automaton.goes_on a (code a f) w r.place).1 (f, fol, refl, fin),
              λ s ms fs.
                  let (q, fq, cq, rest) = (automaton.goes_on b (code a f) w s).0 fs in
                  none q (in_post (code a f) r.set s q ms fq cq) rest,
            )
      ]

  abbrev every : List Row
  every = grid (places a) (subs (places b))

  abbrev Stable : ℕ → Type 0
  Stable n = (r : Row) → Among r every → alive n r ≡ true → alive (suc n) r ≡ true

  settles : (m n : ℕ) → count_by (alive n) every ≤ m → (n' : ℕ) × Stable n'
  settles zero n h = elim (shrinks (alive n) (alive (suc n)) (falls n) every).1 [ inl s ↦ (n, s) | inr lt ↦ absurd (omega arith) ]
  settles (suc m) n h =
      elim (shrinks (alive n) (alive (suc n)) (falls n) every).1 [ inl s ↦ (n, s) | inr lt ↦ settles m (suc n) (omega arith) ]

  abbrev first : Row
  first = row 0 (0 ∷ [])

  first_in : Among first every
  first_in =
      in_grid (places a) (subs (places b)) 0 (0 ∷ []) (inl refl)
      (
      in_left (map (λ s. 0 ∷ s) (subs (range_with_len 1 (letter_count b)))) (subs (range_with_len 1 (letter_count b))) (0 ∷ [])
      (in_map (λ s. 0 ∷ s) (subs (range_with_len 1 (letter_count b))) [] (subs_nil (range_with_len 1 (letter_count b))))
      )

  ranged : (r : Row) → Among r every → Ranged (letter_count a) (letter_count b) r
  ranged r m =
      let (x, y) = of_grid (places a) (subs (places b)) r m in
      let (l, h) = from_range (suc (letter_count a)) 0 r.place x in
      record { place = omega arith; set = subs_rise (suc (letter_count b)) 0 (letter_count b) (omega arith) r.set y }

  module _ (n : ℕ) (stable : Stable n) (begun : alive n first ≡ true) where
    abbrev rows : List Row
    rows = first ∷ filter (alive n) every

    was : (r : Row) → Among r rows → Among r every × (alive n r ≡ true)
    was r (inl e) = subst (λ (v : Row). Among v every × (alive n v ≡ true)) (sym e) (first_in, begun)
    was r (inr m) = filter_was (alive n) every r m

    on : (r : Row) → alive (suc n) r ≡ true → GoesOn a b rows r
    on r t f fol =
        let m = in_places a r.place f fol in (
          next r f,
          inr (
              filter_in (alive n) every (next r f)
              (in_grid (places a) (subs (places b)) f (post b (code a f) r.set) m (subs_filter (stepped b (code a f) r.set) (places b)))
              (
              apply (follows a r.place f) (alive n (next r f))
              (all_each (goes (alive n) r) (places a) (and_parts (ends_too a b r) (list_all (goes (alive n) r) (places a)) t).1 f m)
              fol
              )
              ),
          post_serves r f,
        )

    ends : (r : Row) → alive (suc n) r ≡ true → Ends a b r
    ends r t e =
        any_some (may_end b) r.set
        (apply (may_end a r.place) (any (may_end b) r.set) (and_parts (ends_too a b r) (list_all (goes (alive n) r) (places a)) t).0 e)

    kept : Keeps a b rows
    kept = record {
      begins = (refl, refl);
      ends = λ r m. let (k, t) = was r m in ends r (stable r k t);
      goes_on = λ r m. let (k, t) = was r m in on r (stable r k t);
    }

    in_range : (r : Row) → Among r rows → Ranged (letter_count a) (letter_count b) r
    in_range r m = ranged r (was r m).0

refuting : (a b : Expr) (w : List ℕ) → finishes a w 0 ≡ true → (finishes b w 0 ≡ true → ⊥) → Refutes a b w
refuting a b w p q = ((finishing.start a w).0 p, λ x. q ((finishing.start b w).1 x))

pub dichotomy : RowsOrWord
dichotomy a b = record {
  either =
      let (n, st) = settles a b (count_by (alive a b 0) (every a b)) 0 (omega arith) in
      elim (cases_Bool (alive a b n (first a b))) [
        | inl t ↦ inl (rows a b n st t, in_range a b n st t, kept a b n st t)
        | inr t ↦ let (w, fin, none) = word a b n (first a b) t in inr (w, refuting a b w fin (none 0 (inl refl)))
      ];
  never_both = λ rows k w r. r.1 (sound a b rows k w r.0);
}
