-- Rows judged by tables: what the tables say is what the tests ask.
use Rattle.std.proofs.Common.{◌≡◌, ℕ, zero, suc, ◌+◌, ◌<◌, ◌≤◌, Bool, true, false, cond, not, ◌&&◌, eqb, List, [], ◌∷◌, length, drop, find, Some, None, Ok, Err, Option, sym, refl, ap, ◌∙◌, subst, inl, inr, arith, eq-eqb}
use Rattle.std.proofs.lemmas.Bool.{and_parts, and_from}
use Prim.{tt}
use mathlib.Core.Bool.{or-false}
use borrow.Author.Tests.{clash}
use Rattle.std.specs.List.{list_all, range_with_len}
use Rattle.expression.specs.declared.node.Node.{Node}
use Rattle.expression.specs.Expressions.{Expr}
use Rattle.expression.specs.Layouts.{nodes_of, places_of, expression_of}
use Rattle.expression.specs.Members.{any}
use Rattle.expression.specs.Places.{letter_count, follows, may_end}
use Rattle.containment.specs.declared.after.After.{After}
use Rattle.expression.specs.declared.layout.Layout.{Layout}
use Rattle.containment.specs.declared.fault.RowsFault.{RowsFault}
use Rattle.containment.specs.declared.fault.RowsFault.TheVariants.{End}
use Rattle.containment.specs.Format.{ill, rows_of, Formed}
use Rattle.containment.specs.Indexing.{Listed, Low}
use Rattle.containment.specs.Rows.{Row, row, row_at, Among, Rises, Ranged}
use Rattle.containment.specs.Checking.{unserved, at_follower, row_fault, rows_fault, or_else, verdict}
use Rattle.containment.specs.Passes.{AllCoded, ComesAfter}
use Rattle.containment.specs.Serving.{Marks, unserved_by}
use Rattle.containment.specs.Stepping.{marked, places}
use Rattle.containment.specs.Wiring.{whole}
use Rattle.containment.proofs.Booleans.{same}
use Rattle.containment.proofs.Lists.{from_in, member_in, any_some, any_in, nth_in}
use Rattle.containment.proofs.Format.{formed}
use Rattle.containment.proofs.Wiring.{wired}
use Rattle.containment.proofs.Judging.{rest_turn}

-- Each place of a set that rises is at most the bound.
rises_most : (least most : ℕ) (l : List ℕ) → Rises least most l → (q : ℕ) → Among q l → q ≤ most
rises_most least most [] h q m = absurd m
rises_most least most (p ∷ l) h q (inl e) = subst (λ (x : ℕ). x ≤ most) (sym e) h.1
rises_most least most (p ∷ l) h q (inr m) = rises_most (suc p) most l h.2 q m

-- A test over the places of a set, by the table that marks it.
module _ (e : Expr) (set : List ℕ) (table : List Bool) (m : Marks set table) (low : (p : ℕ) → Among p set → p ≤ letter_count e) where
  pub by_set : (f : ℕ → Bool) → any (λ p. marked table p && f p) (places e) ≡ any f set
  by_set f =
      same _ _
      (λ t.
      let (p, k, b) = any_some (λ p. marked table p && f p) (places e) t in
      any_in f set p (member_in p set (sym (m p) ∙ (and_parts (marked table p) (f p) b).0)) (and_parts (marked table p) (f p) b).1)
      (λ t.
      let (p, k, b) = any_some f set t in
      let l = low p k in
      any_in (λ p. marked table p && f p) (places e) p (from_in (suc (letter_count e)) 0 p (omega arith) (omega arith))
      (and_from (marked table p) (f p) (m p ∙ any_in (eqb p) set p k (eq-eqb p p refl)) b))

module _ (earlier later : List Node) (rows : List Row) (n : ℕ) where
  abbrev a : Expr
  a = whole earlier

  abbrev b : Expr
  b = whole later

  abbrev r : Row
  r = row_at rows n

  -- What comes after the row's place and after its set.
  module _ (ranged : Ranged (letter_count a) (letter_count b) r)
      (place-table set-table : List Bool) (pm : Marks (r.place ∷ []) place-table) (sm : Marks r.set set-table)
      (before after : After) (ba : ComesAfter earlier place-table before) (aa : ComesAfter later set-table after) where
    low_place : (p : ℕ) → Among p (r.place ∷ []) → p ≤ letter_count a
    low_place p (inl e) = subst (λ (x : ℕ). x ≤ letter_count a) (sym e) ranged.place
    low_place p (inr k) = absurd k

    low_set : (p : ℕ) → Among p r.set → p ≤ letter_count b
    low_set = rises_most 0 (letter_count b) r.set ranged.set

    place_ends : before.ends ≡ may_end a r.place
    place_ends = ba.ends ∙ by_set a (r.place ∷ []) place-table pm low_place (may_end a) ∙ or-false (may_end a r.place)

    set_ends : after.ends ≡ any (may_end b) r.set
    set_ends = aa.ends ∙ by_set b r.set set-table sm low_set (may_end b)

    place_follow : (f : ℕ) → marked before.follow f ≡ follows a r.place f
    place_follow f = ba.follow f ∙ by_set a (r.place ∷ []) place-table pm low_place (λ p. follows a p f) ∙ or-false (follows a r.place f)

    set_follow : (q : ℕ) → marked after.follow q ≡ any (λ p. follows b p q) r.set
    set_follow q = aa.follow q ∙ by_set b r.set set-table sm low_set (λ p. follows b p q)

    module _ (codes₁ codes₂ : List ℕ) (c₁ : AllCoded earlier codes₁) (c₂ : AllCoded later codes₂) where
      unserved_same : (f : ℕ) → unserved_by rows before.follow codes₁ after.follow codes₂ f ≡ unserved a b rows r f
      unserved_same f =
          λ i. place_follow f i && not (any (λ (o : Row). eqb o.place f && list_all (λ q. eqb (c₂ q i) (c₁ f i) && set_follow q i) o.set) rows)

      abbrev least : Option ℕ
      least = find (unserved_by rows before.follow codes₁ after.follow codes₂) (range_with_len 1 (letter_count a))

      least_same : least ≡ find (unserved a b rows r) (range_with_len 1 (letter_count a))
      least_same = λ i. find (λ f. unserved_same f i) (range_with_len 1 (letter_count a))

      pub row_end : before.ends && not after.ends ≡ true → row_fault a b rows n r ≡ Some (End n)
      row_end t =
          ap (λ c. cond c (at_follower n (find (unserved a b rows r) (range_with_len 1 (letter_count a)))) (Some (End n)))
          (stuck (may_end a r.place) (any (may_end b) r.set) ((λ i. sym place_ends i && not (sym set_ends i)) ∙ t))
        where
          stuck : (x y : Bool) → x && not y ≡ true → cond x y true ≡ false
          stuck true true e = absurd (clash e)
          stuck true false e = refl
          stuck false y e = absurd (clash e)

      pub row_goes : before.ends && not after.ends ≡ false → row_fault a b rows n r ≡ at_follower n least
      row_goes t =
          ap (λ c. cond c (at_follower n (find (unserved a b rows r) (range_with_len 1 (letter_count a)))) (Some (End n)))
          (free (may_end a r.place) (any (may_end b) r.set) ((λ i. sym place_ends i && not (sym set_ends i)) ∙ t))
          ∙ ap (at_follower n) (sym least_same)
        where
          free : (x y : Bool) → x && not y ≡ false → cond x y true ≡ true
          free true true e = refl
          free true false e = absurd (clash (sym e))
          free false y e = refl

pub places_few : (l : Layout) → places_of l ≤ 128
places_few l = omega (arith, (wired l).places, (wired l).few)

-- Where the list is well formed between two layouts.
module _ (l l' : Layout) (ns : List ℕ) (well : ill (places_of l) (places_of l') ns ≡ None) where
  abbrev rows : List Row
  rows = rows_of ns

  pub formed_here : Formed (letter_count (expression_of l)) (letter_count (expression_of l')) rows ns
  formed_here = formed (letter_count (expression_of l)) (letter_count (expression_of l')) ns ((λ i. ill (sym (wired l).places i) (sym (wired l').places i) ns) ∙ well)

  rises_wide : (least most : ℕ) (s : List ℕ) → most ≤ 128 → Rises least most s → Rises least 128 s
  rises_wide least most [] h r = tt
  rises_wide least most (q ∷ s) h r = (r.0, let k = r.1 in omega arith, rises_wide (suc q) most s h r.2)

  pub listed : Listed rows ns
  listed =
      let m = (wired l).few in
      let k = (wired l').few in
      record {
        flat = formed_here.flat;
        ranged = λ r j. let x = formed_here.ranged r j in record { place = let p = x.place in omega arith; set = rises_wide 0 _ r.set k x.set };
        short = formed_here.short;
      }

  -- Row n, whose place and set were read, and what comes after them.
  module _ (n : ℕ) (lt : n < length rows) where
    in_range : Ranged (letter_count (expression_of l)) (letter_count (expression_of l')) (row_at rows n)
    in_range = formed_here.ranged (row_at rows n) (nth_in (row 0 []) rows n lt)

    pub place_low : (place : ℕ) → place ≡ (row_at rows n).place → Low (place ∷ [])
    place_low place pe zero d b = let few = (wired l).few in let k = in_range.place in omega arith
    place_low place pe (suc i) d b = absurd (omega arith)

    module _ (place : ℕ) (set : List ℕ) (pe : place ≡ (row_at rows n).place) (se : set ≡ (row_at rows n).set) (place-table set-table : List Bool) (pm : Marks (place ∷ []) place-table) (sm : Marks set set-table)
        (before after : After) (ba : ComesAfter (nodes_of l) place-table before) (aa : ComesAfter (nodes_of l') set-table after)
        (codes₁ codes₂ : List ℕ) (c₁ : AllCoded (nodes_of l) codes₁) (c₂ : AllCoded (nodes_of l') codes₂) where
      place_marks : Marks ((row_at rows n).place ∷ []) place-table
      place_marks = subst (λ (p : ℕ). Marks (p ∷ []) place-table) pe pm

      set_marks : Marks (row_at rows n).set set-table
      set_marks = subst (λ (s : List ℕ). Marks s set-table) se sm

      pub ends_fault : before.ends && not after.ends ≡ true → row_fault (expression_of l) (expression_of l') rows n (row_at rows n) ≡ Some (End n)
      ends_fault = row_end (nodes_of l) (nodes_of l') rows n in_range place-table set-table place_marks set_marks before after ba aa codes₁ codes₂ c₁ c₂

      pub goes_fault : (o : Option ℕ) → o ≡ find (unserved_by rows before.follow codes₁ after.follow codes₂) (range_with_len 1 (places_of l))
          → before.ends && not after.ends ≡ false → row_fault (expression_of l) (expression_of l') rows n (row_at rows n) ≡ at_follower n o
      goes_fault o e t =
          row_goes (nodes_of l) (nodes_of l') rows n in_range place-table set-table place_marks set_marks before after ba aa codes₁ codes₂ c₁ c₂ t
          ∙ ap (at_follower n) (ap (λ v. find (unserved_by rows before.follow codes₁ after.follow codes₂) (range_with_len 1 v)) (sym (wired l).places) ∙ sym e)

-- What a verdict tells of the fault.
ok_is : (o : Option RowsFault) → Ok tt ≡ verdict o → o ≡ None
ok_is None e = refl
ok_is (Some f) e = absurd cc

err_is : (o : Option RowsFault) (f : RowsFault) → Err f ≡ verdict o → o ≡ Some f
err_is None f e = absurd cc
err_is (Some g) f e = cc

-- The rows one after another.
module _ (a b : Expr) (rows : List Row) (n : ℕ) (inv : rows_fault a b rows 0 rows ≡ rows_fault a b rows n (drop n rows)) (lt : n < length rows) where
  turn : (o : Option RowsFault) → row_fault a b rows n (row_at rows n) ≡ o → rows_fault a b rows n (drop n rows) ≡ or_else o (rows_fault a b rows (suc n) (drop (suc n) rows))
  turn o e = rest_turn a b rows n lt ∙ ap (λ v. or_else v (rows_fault a b rows (suc n) (drop (suc n) rows))) e

  pub rows_stop : (f : RowsFault) → Err f ≡ verdict (row_fault a b rows n (row_at rows n)) → Err f ≡ verdict (rows_fault a b rows 0 rows)
  rows_stop f e = ap verdict (sym (inv ∙ turn (Some f) (err_is _ f e)))

  pub rows_turn : Ok tt ≡ verdict (row_fault a b rows n (row_at rows n)) → rows_fault a b rows 0 rows ≡ rows_fault a b rows (n + 1) (drop (n + 1) rows)
  rows_turn e = let s : suc n ≡ n + 1 = omega arith in inv ∙ turn None (ok_is _ e) ∙ ap (λ k. rows_fault a b rows k (drop k rows)) s
