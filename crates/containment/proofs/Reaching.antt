-- Steps of the test whether letters are a word.
use Rattle.std.proofs.Common.{◌≡◌, ℕ, suc, ◌+◌, ◌<◌, ◌≤◌, Bool, true, false, ◌&&◌, eqb, List, [], ◌∷◌, map, length, get_or, drop, sym, ap, ◌∙◌, subst, inl, inr, arith, drop_of_length-le, drop-cons, eq-eqb, eqb-true}
use Rattle.std.proofs.lemmas.Bool.{and_parts, and_from}
use mathlib.Core.Bool.{or-false}
use borrow.Author.Tests.{clash}
use Rattle.std.proofs.lemmas.List.{get_or-map, length-map}
use Rattle.expression.specs.declared.layout.Layout.{Layout}
use Rattle.expression.specs.Expressions.{Expr}
use Rattle.expression.specs.Layouts.{nodes_of, expression_of}
use Rattle.expression.specs.Places.{letter_count, code, follows, finishes}
use Rattle.expression.proofs.PlaceTheorems.{automaton, finishing}
use Rattle.containment.specs.Passes.{ComesAfter}
use Rattle.containment.specs.declared.after.After.{After}
use Rattle.containment.specs.Reaching.{some_finish, Stepped, TellsWord}
use Rattle.containment.specs.Rows.{Among}
use Rattle.containment.specs.Serving.{Marks}
use Rattle.containment.specs.Stepping.{marked, places, some_end, some_follow}
use Rattle.containment.proofs.Lists.{from_in, from_range, any_some, any_in}
use Rattle.containment.proofs.Tabled.{by_set}
use Rattle.containment.proofs.Booleans.{same}
use Rattle.containment.proofs.Wiring.{wired}

module _ (e : Expr) where
  pub start_finish : (table : List Bool) → Marks (0 ∷ []) table → (w : List ℕ) → finishes e w 0 ≡ some_finish e table w
  start_finish table m w = sym (by_set e (0 ∷ []) table m low (finishes e w) ∙ or-false (finishes e w 0))
    where
      low : (p : ℕ) → Among p (0 ∷ []) → p ≤ letter_count e
      low p (inl x) = omega arith
      low p (inr x) = absurd x

  in_places : (q : ℕ) → q ≤ letter_count e → Among q (places e)
  in_places q h = from_in (suc (letter_count e)) 0 q (omega arith) (omega arith)

  module _ (few : letter_count e ≤ 128) (set next : List Bool) (c : ℕ) (s : Stepped e set c 129 next) (w : List ℕ) where
    -- A place of the set that can finish the letters goes on to one of the next set that can finish the others, and back.
    on : some_finish e set (c ∷ w) ≡ true → some_finish e next w ≡ true
    on t =
        let (p, k, x) = any_some (λ p. marked set p && finishes e (c ∷ w) p) (places e) t in
        let (q, fol, is, fin) = (automaton.goes_on e c w p).0 (and_parts (marked set p) (finishes e (c ∷ w) p) x).1 in
        let (low, high) = automaton.within e p q fol in
        let m : some_follow e set q ≡ true =
        any_in (λ p. marked set p && follows e p q) (places e) p k (and_from (marked set p) (follows e p q) (and_parts (marked set p) (finishes e (c ∷ w) p) x).0 fol) in
        any_in (λ q. marked next q && finishes e w q) (places e) q (in_places q high)
        (and_from (marked next q) (finishes e w q) (s q (omega arith) ∙ and_from (eqb (code e q) c) (some_follow e set q) (eq-eqb (code e q) c is) m) fin)

    back : some_finish e next w ≡ true → some_finish e set (c ∷ w) ≡ true
    back t =
        let (q, k, x) = any_some (λ q. marked next q && finishes e w q) (places e) t in
        let (low, high) = from_range (suc (letter_count e)) 0 q k in
        let y = sym (s q (omega arith)) ∙ (and_parts (marked next q) (finishes e w q) x).0 in
        let (p, j, z) = any_some (λ p. marked set p && follows e p q) (places e) (and_parts (eqb (code e q) c) (some_follow e set q) y).1 in
        any_in (λ p. marked set p && finishes e (c ∷ w) p) (places e) p j
        (
        and_from (marked set p) (finishes e (c ∷ w) p) (and_parts (marked set p) (follows e p q) z).0
        ((automaton.goes_on e c w p).1 (q, (and_parts (marked set p) (follows e p q) z).1, eqb-true (code e q) c (and_parts (eqb (code e q) c) (some_follow e set q) y).0, (and_parts (marked next q) (finishes e w q) x).1))
        )

    step_finish : some_finish e set (c ∷ w) ≡ some_finish e next w
    step_finish = same (some_finish e set (c ∷ w)) (some_finish e next w) on back

  pub tells : (w : List ℕ) (r : Bool) → finishes e w 0 ≡ r → TellsWord e w r
  tells w true t = (finishing.start e w).0 t
  tells w false t = λ x. clash (sym t ∙ (finishing.start e w).1 x)

-- A layout, and the letters of a word.
module _ (l : Layout) {L : Type 0} (coded : L → ℕ) (word : List L) where
  abbrev e : Expr
  e = expression_of l

  -- One more letter.
  pub letter_more : (i : ℕ) → i < length word → (x : L) → x ≡ get_or word i x → (c : ℕ) → c ≡ coded x → (l' : Layout) → l' ≡ l → (set next : List Bool) → Stepped (expression_of l') set c 129 next
      → finishes e (map coded word) 0 ≡ some_finish e set (drop i (map coded word))
      → finishes e (map coded word) 0 ≡ some_finish e next (drop (i + 1) (map coded word))
  letter_more i lt x at c ce l' le set next s inv =
      let lt' : i < length (map coded word) = omega (arith, length-map word coded) in
      let here : get_or (map coded word) i 0 ≡ c = get_or-map coded word i x 0 lt ∙ ap coded (sym at) ∙ sym ce in
      let one : suc i ≡ i + 1 = omega arith in
      inv ∙ ap (some_finish e set) (drop-cons (map coded word) i 0 lt' ∙ ap (λ v. v ∷ drop (suc i) (map coded word)) here)
      ∙ step_finish e (wired l).few set next c (subst (λ v. Stepped (expression_of v) set c 129 next) le s) (drop (suc i) (map coded word))
      ∙ ap (λ k. some_finish e next (drop k (map coded word))) one

  -- The end of the word.
  pub word_end : (i : ℕ) → length word ≤ i → (l' : Layout) → l' ≡ l → (set : List Bool) (r : After) → ComesAfter (nodes_of l') set r
      → finishes e (map coded word) 0 ≡ some_finish e set (drop i (map coded word)) → TellsWord e (map coded word) r.ends
  word_end i end l' le set r a inv =
      let end' : length (map coded word) ≤ i = omega (arith, end, length-map word coded) in
      tells e (map coded word) r.ends
      (
      inv ∙ ap (some_finish e set) (drop_of_length-le (map coded word) end') ∙ sym (a.ends ∙ ap (λ v. some_end (expression_of v) set) le)
      )
