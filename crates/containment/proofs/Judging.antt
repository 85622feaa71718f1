-- The tests pass exactly where the rules are kept, so the verdict that they compute is the one verdict.
use Rattle.std.proofs.Common.{◌≡◌, ℕ, zero, suc, ◌+◌, ◌<◌, ◌≤◌, Bool, true, false, cond, not, eqb, List, [], ◌∷◌, length, drop, find, Some, None, Ok, Err, Option, Result, sym, refl, ap, ◌∙◌, subst, inl, inr, arith, drop_of_length-le, drop-cons, eq-eqb, eqb-true}
use Rattle.std.proofs.lemmas.Bool.{and_parts, and_from, cases_Bool, false_from_ne_true, both_ways}
use native.Mathlib.Decide.{dec_lt, ℕ_discrete}
use borrow.Author.Tests.{clash}
use Rattle.expression.specs.Expressions.{Expr}
use Rattle.expression.specs.Places.{letter_count, code, follows, may_end}
use Rattle.expression.proofs.PlaceTheorems.{automaton}
use Rattle.containment.specs.declared.fault.RowsFault.{RowsFault}
use Rattle.containment.specs.declared.fault.RowsFault.TheVariants.{IllFormed, Start, End, Follower}
use Rattle.containment.specs.declared.fault.WordFault.{WordFault}
use Rattle.containment.specs.declared.fault.WordFault.TheVariants.{NotEarlier, AlsoLater}
use Rattle.containment.specs.Rows.{Row, row, row_at, Among}
use Rattle.containment.specs.Format.{ill, rows_of, Formed}
use Rattle.containment.specs.Rules.{Begins, Ends, Serves, Served, GoesOn, Keeps}
use Rattle.containment.specs.Verdicts.{KeptBelow, FirstUnserved, Breaks, Judged}
use Rattle.containment.specs.Refuting.{WordJudged}
use Rattle.containment.specs.Theorems.{OneVerdicts}
use Rattle.containment.specs.Checking.{only_zero, begins, ends_too, stepped, serves, served, unserved, at_follower, row_fault, or_else, rows_fault, rules_fault, ill_fault, list_fault, verdict}
use Rattle.containment.proofs.Booleans.{apply, applied}
use Rattle.containment.proofs.Lists.{any, list_all, range_with_len, any_some, any_in, all_each, each_all, nth_in, in_nth}
use Rattle.containment.proofs.Format.{format}

-- Rule 1.
zero_is : (l : List ℕ) → only_zero l ≡ true → l ≡ 0 ∷ []
zero_is [] t = absurd (clash t)
zero_is (q ∷ []) t = λ i. eqb-true q 0 t i ∷ []
zero_is (q ∷ p ∷ l) t = absurd (clash t)

begins_is : (rows : List Row) → begins rows ≡ true → Begins rows
begins_is [] t = absurd (clash t)
begins_is (r ∷ rows) t =
    (eqb-true r.place 0 (and_parts (eqb r.place 0) (only_zero r.set) t).0, zero_is r.set (and_parts (eqb r.place 0) (only_zero r.set) t).1)

begins_to : (rows : List Row) → Begins rows → begins rows ≡ true
begins_to [] h = absurd h
begins_to (r ∷ rows) h = and_from (eqb r.place 0) (only_zero r.set) (eq-eqb r.place 0 h.0) (ap only_zero h.1)

-- The lowest number that passes.
module _ (g : ℕ → Bool) where
  find_stop : (i n : ℕ) → g i ≡ true → find g (range_with_len i (suc n)) ≡ Some i
  find_stop i n t = ap (λ c. cond c (Some i) (find g (range_with_len (i + 1) n))) t

  find_turn : (i n : ℕ) → g i ≡ false → find g (range_with_len i (suc n)) ≡ find g (range_with_len (i + 1) n)
  find_turn i n t = ap (λ c. cond c (Some i) (find g (range_with_len (i + 1) n))) t

  find_none : (n i : ℕ) → ((j : ℕ) → i ≤ j → g j ≡ false) → find g (range_with_len i n) ≡ None
  find_none zero i h = refl
  find_none (suc n) i h = find_turn i n (h i (omega arith)) ∙ find_none n (i + 1) (λ j l. h j (omega arith))

  find_some : (n i f : ℕ) → i ≤ f → f < i + n → g f ≡ true → ((j : ℕ) → j < f → g j ≡ false) → find g (range_with_len i n) ≡ Some f
  find_some zero i f l h t below = absurd (omega arith)
  find_some (suc n) i f l h t below =
      elim (ℕ_discrete i f) [
        | yes e ↦ find_stop i n (ap g e ∙ t) ∙ ap {B = Option ℕ} Some e
        | no ne ↦ find_turn i n (below i (omega arith)) ∙ find_some n (i + 1) f (omega arith) (omega arith) t below
      ]

  -- What the lowest of n numbers from i on tells.
  abbrev Lowest : ℕ → ℕ → Option ℕ → Type 0
  Lowest i n None = (j : ℕ) → i ≤ j → j < i + n → g j ≡ false
  Lowest i n (Some f) = (g f ≡ true) × ((j : ℕ) → i ≤ j → j < f → g j ≡ false)

  lowest_past : (i n : ℕ) (o : Option ℕ) → g i ≡ false → Lowest (i + 1) n o → Lowest i (suc n) o
  lowest_past i n None t h = λ j l b. elim (ℕ_discrete i j) [ yes e ↦ ap g (sym e) ∙ t | no ne ↦ h j (omega arith) (omega arith) ]
  lowest_past i n (Some f) t h = (h.0, λ j l b. elim (ℕ_discrete i j) [ yes e ↦ ap g (sym e) ∙ t | no ne ↦ h.1 j (omega arith) b ])

  lowest_is : (n i : ℕ) → Lowest i n (find g (range_with_len i n))
  lowest_is zero i = λ j l b. absurd (omega arith)
  lowest_is (suc n) i = go (g i) refl (lowest_is n (i + 1))
    where
      go : (c : Bool) → g i ≡ c → Lowest (i + 1) n (find g (range_with_len (i + 1) n)) → Lowest i (suc n) (cond c (Some i) (find g (range_with_len (i + 1) n)))
      go true t ih = (t, λ j l b. absurd (omega arith))
      go false t ih = lowest_past i n (find g (range_with_len (i + 1) n)) t ih

module _ (a b : Expr) where
  -- Rule 2.
  ends_is : (r : Row) → ends_too a b r ≡ true → Ends a b r
  ends_is r t e = any_some (may_end b) r.set (apply (may_end a r.place) (any (may_end b) r.set) t e)

  ends_to : (r : Row) → Ends a b r → ends_too a b r ≡ true
  ends_to r h =
      applied (may_end a r.place) (any (may_end b) r.set) (λ e. let (q, m, t) = h e in any_in (may_end b) r.set q m t)

  -- A row that serves.
  module _ (r : Row) (f : ℕ) where
    abbrev good : ℕ → Bool
    good = stepped b (code a f) r.set

    pub serves_is : (o : Row) → serves a b r f o ≡ true → Serves a b r f o
    serves_is o t = record {
      place = eqb-true o.place f (and_parts (eqb o.place f) (list_all good o.set) t).0;
      coded = λ q m. eqb-true (code b q) (code a f) (and_parts (eqb (code b q) (code a f)) (any (λ p. follows b p q) r.set) (each q m)).0;
      reached = λ q m. any_some (λ p. follows b p q) r.set (and_parts (eqb (code b q) (code a f)) (any (λ p. follows b p q) r.set) (each q m)).1;
    }
      where
        each : (q : ℕ) → Among q o.set → good q ≡ true
        each = all_each good o.set (and_parts (eqb o.place f) (list_all good o.set) t).1

    pub serves_to : (o : Row) → Serves a b r f o → serves a b r f o ≡ true
    serves_to o s =
        and_from (eqb o.place f) (list_all good o.set) (eq-eqb o.place f s.place)
        (
        each_all good o.set λ q m.
        let (p, mp, fp) = s.reached q m in
        and_from (eqb (code b q) (code a f)) (any (λ p. follows b p q) r.set) (eq-eqb (code b q) (code a f) (s.coded q m))
        (any_in (λ p. follows b p q) r.set p mp fp)
        )

  module _ (rows : List Row) where
    module _ (r : Row) (f : ℕ) where
      served_is : served a b rows r f ≡ true → Served a b rows r f
      served_is t = let (o, m, s) = any_some (serves a b r f) rows t in (o, m, serves_is r f o s)

      served_to : Served a b rows r f → served a b rows r f ≡ true
      served_to (o, m, s) = any_in (serves a b r f) rows o m (serves_to r f o s)

      un_is : unserved a b rows r f ≡ true → (follows a r.place f ≡ true) × (Served a b rows r f → ⊥)
      un_is t =
          let n = (and_parts (follows a r.place f) (not (served a b rows r f)) t).1 in
          ((and_parts (follows a r.place f) (not (served a b rows r f)) t).0, λ s. clash (ap not (sym (served_to s)) ∙ n))

      un_to : follows a r.place f ≡ true → (Served a b rows r f → ⊥) → unserved a b rows r f ≡ true
      un_to fol no_one =
          and_from (follows a r.place f) (not (served a b rows r f)) fol (ap not (false_from_ne_true (served a b rows r f) (λ t. no_one (served_is t))))

      un_not : unserved a b rows r f ≡ false → follows a r.place f ≡ true → Served a b rows r f
      un_not t fol =
          elim (cases_Bool (served a b rows r f)) [
            | inl y ↦ served_is y
            | inr n ↦ absurd (both_ways (unserved a b rows r f) t (and_from (follows a r.place f) (not (served a b rows r f)) fol (ap not n)))
          ]

      not_un : (follows a r.place f ≡ true → Served a b rows r f) → unserved a b rows r f ≡ false
      not_un h = false_from_ne_true (unserved a b rows r f) (λ t. let (fol, n) = un_is t in n (h fol))

    module _ (r : Row) where
      abbrev un : ℕ → Bool
      un = unserved a b rows r

      abbrev Unserved : Option ℕ → Type 0
      Unserved None = GoesOn a b rows r
      Unserved (Some f) = FirstUnserved a b rows r f

      -- A follower is one of 1 to the last place.
      from_one : (f : ℕ) → follows a r.place f ≡ true → (1 ≤ f) × (f < 1 + letter_count a)
      from_one f h = let (x, y) = automaton.within a r.place f h in (x, omega arith)

      unserved_is : (o : Option ℕ) → Lowest un 1 (letter_count a) o → Unserved o
      unserved_is None h = λ f fol. let (x, y) = from_one f fol in un_not r f (h f x y) fol
      unserved_is (Some f) h =
          let (fol, no_one) = un_is r f h.0 in
          record { follower = fol; unserved = no_one; below = λ g l fg. un_not r g (h.1 g (from_one g fg).0 l) fg }

      unserved_to : (o : Option ℕ) → Unserved o → find un (range_with_len 1 (letter_count a)) ≡ o
      unserved_to None h = find_none un (letter_count a) 1 (λ j l. not_un r j (h j))
      unserved_to (Some f) h =
          let (x, y) = from_one f h.follower in
          find_some un (letter_count a) 1 f x y (un_to r f h.follower h.unserved) (λ j l. not_un r j (h.below j l))

    -- What the fault of row n tells of it.
    abbrev RowTells : ℕ → Row → Option RowsFault → Type 0
    RowTells n r None = Ends a b r × GoesOn a b rows r
    RowTells n r (Some (IllFormed i)) = ⊥
    RowTells n r (Some Start) = ⊥
    RowTells n r (Some (End i)) = (i ≡ n) × (Ends a b r → ⊥)
    RowTells n r (Some (Follower i f)) = (i ≡ n) × Ends a b r × FirstUnserved a b rows r f

    row_tells : (n : ℕ) (r : Row) → RowTells n r (row_fault a b rows n r)
    row_tells n r = go (ends_too a b r) refl (find (un r) (range_with_len 1 (letter_count a))) (unserved_is r _ (lowest_is (un r) (letter_count a) 1))
      where
        go : (c : Bool) → ends_too a b r ≡ c → (o : Option ℕ) → Unserved r o → RowTells n r (cond c (at_follower n o) (Some (End n)))
        go true t None h = (ends_is r t, h)
        go true t (Some f) h = (refl, ends_is r t, h)
        go false t o h = (refl, λ e. both_ways (ends_too a b r) t (ends_to r e))

    row_told : (n : ℕ) (r : Row) (o : Option RowsFault) → RowTells n r o → row_fault a b rows n r ≡ o
    row_told n r None (e, g) =
        ap (λ c. cond c (at_follower n (find (un r) (range_with_len 1 (letter_count a)))) (Some (End n))) (ends_to r e) ∙ ap (at_follower n) (unserved_to r None g)
    row_told n r (Some (IllFormed i)) h = absurd h
    row_told n r (Some Start) h = absurd h
    row_told n r (Some (End i)) (s, h) =
        ap (λ c. cond c (at_follower n (find (un r) (range_with_len 1 (letter_count a)))) (Some (End n))) (false_from_ne_true (ends_too a b r) (λ t. h (ends_is r t)))
        ∙ ap (λ v. Some (End v)) (sym s)
    row_told n r (Some (Follower i f)) (s, e, g) =
        ap (λ c. cond c (at_follower n (find (un r) (range_with_len 1 (letter_count a)))) (Some (End n))) (ends_to r e) ∙ ap (at_follower n) (unserved_to r (Some f) g)
        ∙ ap (λ v. Some (Follower v f)) (sym s)

    -- The faults of the rows from number n on.
    abbrev rest : ℕ → Option RowsFault
    rest n = rows_fault a b rows n (drop n rows)

    pub rest_turn : (n : ℕ) → n < length rows → rest n ≡ or_else (row_fault a b rows n (row_at rows n)) (rest (suc n))
    rest_turn n h = ap (rows_fault a b rows n) (drop-cons rows n (row 0 []) h)

    pub rest_end : (n : ℕ) → length rows ≤ n → rest n ≡ None
    rest_end n h = ap (rows_fault a b rows n) (drop_of_length-le rows h)

    abbrev Told : Option RowsFault → Type 0
    Told None = Keeps a b rows
    Told (Some x) = Breaks a b rows x

    abbrev Fine : ℕ → Type 0
    Fine i = Ends a b (row_at rows i) × GoesOn a b rows (row_at rows i)

    below_more : (n : ℕ) → ((i : ℕ) → i < n → Fine i) → Fine n → (i : ℕ) → i < suc n → Fine i
    below_more n low top i h = elim (dec_lt i n) [ yes l ↦ low i l | no f ↦ let e : n ≡ i = omega (arith, h, f) in subst Fine e top ]

    module _ (b₁ : Begins rows) where
      kept : ((i : ℕ) → i < length rows → Fine i) → Keeps a b rows
      kept h = record {
        begins = b₁;
        ends = λ r m. let (n, l, e) = in_nth (row 0 []) rows r m in subst (Ends a b) e (h n l).0;
        goes_on = λ r m. let (n, l, e) = in_nth (row 0 []) rows r m in subst (GoesOn a b rows) e (h n l).1;
      }

      below : (n : ℕ) → n < length rows → ((i : ℕ) → i < n → Fine i) → KeptBelow a b rows n
      below n l h = record { within = l; begins = b₁; ends = λ i k. (h i k).0; goes_on = λ i k. (h i k).1 }

      -- By what the fault of row n tells, and the rows after it.
      told_by :
          (n : ℕ) → n < length rows → ((i : ℕ) → i < n → Fine i) →
          (o o' : Option RowsFault) → RowTells n (row_at rows n) o → (Fine n → Told o') → Told (or_else o o')
      told_by n l h None o' t f = f t
      told_by n l h (Some (IllFormed i)) o' t f = absurd t
      told_by n l h (Some Start) o' t f = absurd t
      told_by n l h (Some (End i)) o' t f = subst (λ v. Breaks a b rows (End v)) (sym t.0) (below n l h, t.1)
      told_by n l h (Some (Follower i g)) o' t f = subst (λ v. Breaks a b rows (Follower v g)) (sym t.0) (below n l h, t.1, t.2)

      told_from : (d n : ℕ) → n + d ≡ length rows → ((i : ℕ) → i < n → Fine i) → Told (rest n)
      told_from zero n e h = subst Told (sym (rest_end n (omega arith))) (kept (λ i l. h i (omega arith)))
      told_from (suc d) n e h =
          subst Told (sym (rest_turn n (omega arith)))
          (told_by n (omega arith) h (row_fault a b rows n (row_at rows n)) (rest (suc n)) (row_tells n (row_at rows n)) (λ f. told_from d (suc n) (omega arith) (below_more n h f)))

    rules_told : Told (rules_fault a b rows)
    rules_told = go (begins rows) refl
      where
        go : (c : Bool) → begins rows ≡ c → Told (cond c (rest 0) (Some Start))
        go true t = told_from (begins_is rows t) (length rows) 0 (omega arith) (λ i l. absurd (omega arith))
        go false t = λ h. both_ways (begins rows) t (begins_to rows h)

    -- The fault is the only one that the rules tell.
    skip : (n : ℕ) → n ≤ length rows → ((i : ℕ) → i < n → row_fault a b rows i (row_at rows i) ≡ None) → rest 0 ≡ rest n
    skip zero h f = refl
    skip (suc n) h f = skip n (omega arith) (λ i l. f i (omega arith)) ∙ rest_turn n h ∙ ap (λ o. or_else o (rest (suc n))) (f n (omega arith))

    begun : Begins rows → (o : Option RowsFault) → rest 0 ≡ o → rules_fault a b rows ≡ o
    begun h o e = ap (λ c. cond c (rest 0) (Some Start)) (begins_to rows h) ∙ e

    rules_at : (n : ℕ) (x : RowsFault) → KeptBelow a b rows n → RowTells n (row_at rows n) (Some x) → rules_fault a b rows ≡ Some x
    rules_at n x k t =
        begun k.begins (Some x)
        (
        skip n (omega (arith, k.within)) (λ i l. row_told i (row_at rows i) None (k.ends i l, k.goes_on i l))
        ∙ rest_turn n k.within
        ∙ ap (λ o. or_else o (rest (suc n))) (row_told n (row_at rows n) (Some x) t)
        )

    rules_is : (o : Option RowsFault) → Told o → rules_fault a b rows ≡ o
    rules_is None k =
        begun k.begins None
        (
        skip (length rows) (omega arith)
        (λ i l. let m = nth_in (row 0 []) rows i l in row_told i (row_at rows i) None (k.ends (row_at rows i) m, k.goes_on (row_at rows i) m))
        ∙ rest_end (length rows) (omega arith)
        )
    rules_is (Some (IllFormed i)) h = absurd h
    rules_is (Some Start) h = ap (λ c. cond c (rest 0) (Some Start)) (false_from_ne_true (begins rows) (λ t. h (begins_is rows t)))
    rules_is (Some (End n)) (k, e) = rules_at n (End n) k (refl, e)
    rules_is (Some (Follower n f)) (k, e, u) = rules_at n (Follower n f) k (refl, e, u)

  module _ (ns : List ℕ) where
    abbrev ill_here : Option ℕ
    ill_here = ill (letter_count a) (letter_count b) ns

    abbrev rows : List Row
    rows = rows_of ns

    abbrev FormedHere : Type 0
    FormedHere = Formed (letter_count a) (letter_count b) rows ns

    by_rules : FormedHere → (o : Option RowsFault) → Told rows o → Judged a b ns (verdict o)
    by_rules f None k = record { formed = f; keeps = k }
    by_rules f (Some (IllFormed i)) t = absurd t
    by_rules f (Some Start) t = (f, t)
    by_rules f (Some (End n)) t = (f, t)
    by_rules f (Some (Follower n g)) t = (f, t)

    -- The verdict that the tests compute is a verdict.
    pub judged : Judged a b ns (verdict (list_fault a b ns))
    judged = go ill_here refl
      where
        go : (o : Option ℕ) → ill_here ≡ o → Judged a b ns (verdict (ill_fault o (rules_fault a b rows)))
        go None e = by_rules ((format (letter_count a) (letter_count b) ns).formed.0 e) (rules_fault a b rows) (rules_told rows)
        go (Some i) e = e

    well : FormedHere → (o : Option RowsFault) → rules_fault a b rows ≡ o → list_fault a b ns ≡ o
    well f o e = ap (λ i. ill_fault i (rules_fault a b rows)) ((format (letter_count a) (letter_count b) ns).formed.1 f) ∙ e

    -- And the only one.
    pub only : (r : Result Unit RowsFault) → Judged a b ns r → verdict (list_fault a b ns) ≡ r
    only (Ok u) h = ap verdict (well h.formed None (rules_is rows None h.keeps))
    only (Err (IllFormed i)) h = ap (λ o. verdict (ill_fault o (rules_fault a b rows))) h
    only (Err Start) h = ap verdict (well h.0 (Some Start) (rules_is rows (Some Start) h.1))
    only (Err (End n)) h = ap verdict (well h.0 (Some (End n)) (rules_is rows (Some (End n)) h.1))
    only (Err (Follower n f)) h = ap verdict (well h.0 (Some (Follower n f)) (rules_is rows (Some (Follower n f)) h.1))

    one_word : (r s : Result Unit WordFault) → WordJudged a b ns r → WordJudged a b ns s → r ≡ s
    one_word (Ok u) (Ok v) h k = refl
    one_word (Ok u) (Err NotEarlier) h k = absurd (k h.0)
    one_word (Ok u) (Err AlsoLater) h k = absurd (h.1 k.1)
    one_word (Err NotEarlier) (Ok v) h k = absurd (h k.0)
    one_word (Err NotEarlier) (Err NotEarlier) h k = refl
    one_word (Err NotEarlier) (Err AlsoLater) h k = absurd (h k.0)
    one_word (Err AlsoLater) (Ok v) h k = absurd (k.1 h.1)
    one_word (Err AlsoLater) (Err NotEarlier) h k = absurd (k h.0)
    one_word (Err AlsoLater) (Err AlsoLater) h k = refl

pub one_verdicts : OneVerdicts
one_verdicts a b ns = record {
  rows = λ r s h k. sym (only a b ns r h) ∙ only a b ns s k;
  word = one_word a b ns;
}
