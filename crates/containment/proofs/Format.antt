-- A list of numbers is ill formed nowhere exactly if it is that of rows in range.
use Rattle.std.proofs.Common.{◌≡◌, ℕ, zero, suc, ◌+◌, ◌<◌, ◌≤◌, Bool, true, false, cond, leb, ◌⊎◌, List, [], ◌∷◌, ◌++◌, length, get_or, take, drop, Some, None, Option, sym, refl, ap, ◌∙◌, subst, inl, inr, add-one, arith, length-append, drop_of_length-le, drop-cons, le-leb, leb-false, leb-true}
use Prim.{tt}
use borrow.Author.Tests.{clash}
use lib.Seq.{take-append_seam, drop-append_seam}
use Rattle.containment.specs.declared.want.Want.{Want}
use Rattle.containment.specs.declared.want.Want.TheVariants.{Place, Size, Member}
use Rattle.containment.specs.Rows.{Row, row, Rises, Ranged, AllRanged}
use Rattle.containment.specs.Format.{flat, read_rows, rows_of, most_numbers, Formed, members, fits, after, after_all, ill_from, ill_in, ill, FirstIll, Format}
use Rattle.std.proofs.lemmas.Bool.{and_parts, and_from}

-- The rows that are read off the numbers of rows are those rows.
read_flat : (rows : List Row) (n : ℕ) → length (flat rows) ≤ n → read_rows n (flat rows) ≡ rows
read_flat [] zero h = refl
read_flat [] (suc n) h = refl
read_flat (r ∷ rows) zero h = absurd (omega arith)
read_flat (r ∷ rows) (suc n) h =
    let ih = read_flat rows n (omega (arith, length-append r.set (flat rows))) in
    λ i. row r.place (take-append_seam r.set (flat rows) i) ∷ (ap (read_rows n) (drop-append_seam r.set (flat rows)) ∙ ih) i

pub only_rows : (rows : List Row) (ns : List ℕ) → flat rows ≡ ns → rows ≡ rows_of ns
unfolding rows_of
only_rows rows ns e = sym (read_flat rows (length (flat rows)) (omega arith)) ∙ ap (λ v. read_rows (length v) v) e

none_is : (i : ℕ) → ◌≡◌ {A = Option ℕ} (Some i) None → ⊥
none_is i e = let z : ◌≡◌ {A = ℕ} 0 1 = cc in omega arith

passed : (c : Bool) (o : Option ℕ) (i : ℕ) → cond c o (Some i) ≡ None → (c ≡ true) × (o ≡ None)
passed true o i e = (refl, e)
passed false o i e = absurd (none_is i e)

passes : (c : Bool) (o : Option ℕ) (i : ℕ) → c ≡ true → o ≡ None → cond c o (Some i) ≡ None
passes true o i t e = e
passes false o i t e = absurd (clash t)

module _ (m k : ℕ) where
  abbrev Set : ℕ → ℕ → List ℕ → Type 0
  Set left least ns =
      (s : List ℕ) × (rows : List Row) × (length s ≡ left) × (s ++ flat rows ≡ ns) × Rises least k s × AllRanged m k rows

  -- What a reader that wants w goes on to read, where nothing is ill formed.
  abbrev Rest : Want → List ℕ → Type 0
  Rest Place ns = (rows : List Row) × (flat rows ≡ ns) × AllRanged m k rows
  Rest Size ns = (s : List ℕ) × (rows : List Row) × (length s ∷ (s ++ flat rows) ≡ ns) × Rises 0 k s × AllRanged m k rows
  Rest (Member left least) ns = Set (suc left) least ns

  set_of : (left least : ℕ) (ns : List ℕ) → Rest (members left least) ns → Set left least ns
  set_of zero least ns (rows, e, fine) = ([], rows, refl, e, tt, fine)
  set_of (suc left) least ns s = s

  more : (n : ℕ) (s : List ℕ) (rows : List Row) → Ranged m k (row n s) → AllRanged m k rows → AllRanged m k (row n s ∷ rows)
  more n s rows p fine r (inl e) = subst (λ (v : Row). Ranged m k v) (sym e) p
  more n s rows p fine r (inr j) = fine r j

  join : (w : Want) (n : ℕ) (ns : List ℕ) → fits m k w n ≡ true → Rest (after w n) ns → Rest w (n ∷ ns)
  join Place n ns t (s, rows, e, up, fine) =
      (row n s ∷ rows, ap (λ v. n ∷ v) e, more n s rows (record { place = leb-true n m t; set = up }) fine)
  join Size n ns t rest = let (s, rows, len, e, up, fine) = set_of n 0 ns rest in (s, rows, λ i. len i ∷ e i, up, fine)
  join (Member left least) n ns t rest =
      let (s, rows, len, e, up, fine) = set_of left (suc n) ns rest in (
        n ∷ s,
        rows,
        ap suc len,
        ap (λ v. n ∷ v) e,
        (leb-true least n (and_parts (leb least n) (leb n k) t).0, leb-true n k (and_parts (leb least n) (leb n k) t).1, up),
        fine,
      )

  read : (ns : List ℕ) (w : Want) (i : ℕ) → ill_from m k w i ns ≡ None → Rest w ns
  read [] Place i e = ([], refl, λ r j. absurd j)
  read [] Size i e = absurd (none_is i e)
  read [] (Member left least) i e = absurd (none_is i e)
  read (n ∷ ns) w i e =
      let (t, o) = passed (fits m k w n) (ill_from m k (after w n) (suc i) ns) i e in
      join w n ns t (read ns (after w n) (suc i) o)

  write_set :
      (s : List ℕ) (ns : List ℕ) (least : ℕ) →
      Rises least k s →
      ((i : ℕ) → ill_from m k Place i ns ≡ None) →
      (i : ℕ) → ill_from m k (members (length s) least) i (s ++ ns) ≡ None
  write_set [] ns least up rest i = rest i
  write_set (q ∷ s) ns least up rest i =
      passes _ _ i (and_from (leb least q) (leb q k) (le-leb least q up.0) (le-leb q k up.1)) (write_set s ns (suc q) up.2 rest (suc i))

  size_most : (s : List ℕ) (least : ℕ) → least ≤ k + 1 → Rises least k s → length s + least ≤ k + 1
  size_most [] least h up = omega arith
  size_most (q ∷ s) least h up = let (x, y, z) = up in let ih = size_most s (suc q) (omega arith) z in omega arith

  write : (rows : List Row) → AllRanged m k rows → (i : ℕ) → ill_from m k Place i (flat rows) ≡ None
  write [] fine i = refl
  write (r ∷ rows) fine i =
      let h = fine r (inl refl) in
      let most = size_most r.set 0 (omega arith) h.set in
      passes _ _ i (le-leb r.place m h.place)
      (
      passes _ _ (suc i) (le-leb (length r.set) (k + 1) (omega arith))
      (write_set r.set (flat rows) 0 h.set (write rows (λ r j. fine r (inr j))) (suc (suc i)))
      )

  in_from : (ns : List ℕ) → ill_in m k ns ≡ None → (0 < length ns) × (ill_from m k Place 0 ns ≡ None)
  in_from [] e = absurd (none_is 0 e)
  in_from (n ∷ ns) e = (omega arith, e)

  from_in : (ns : List ℕ) → 0 < length ns → ill_from m k Place 0 ns ≡ None → ill_in m k ns ≡ None
  from_in [] h e = absurd (omega arith)
  from_in (n ∷ ns) h e = e

  some_rows : (rows : List Row) → 0 < length (flat rows) → 0 < length rows
  some_rows [] h = absurd (omega arith)
  some_rows (r ∷ rows) h = omega arith

  some_numbers : (rows : List Row) → 0 < length rows → 0 < length (flat rows)
  some_numbers [] h = absurd (omega arith)
  some_numbers (r ∷ rows) h = omega arith

  formed_of : (ns : List ℕ) → length ns ≤ most_numbers → (0 < length ns) → (rows : List Row) × (flat rows ≡ ns) × AllRanged m k rows → Formed m k (rows_of ns) ns
  formed_of ns short some (rows, e, fine) =
      subst (λ (v : List Row). Formed m k v ns) (only_rows rows ns e)
      (record { flat = e; ranged = fine; some = some_rows rows (omega (arith, ap length e)); short = short })

  pub formed : (ns : List ℕ) → ill m k ns ≡ None → Formed m k (rows_of ns) ns
  formed ns e =
      let (t, u) = passed (leb (length ns) most_numbers) (ill_in m k ns) most_numbers e in
      let (some, v) = in_from ns u in
      formed_of ns (leb-true (length ns) most_numbers t) some (read ns Place 0 v)

  well : (ns : List ℕ) (rows : List Row) → Formed m k rows ns → ill m k ns ≡ None
  well ns rows f =
      passes _ _ most_numbers (le-leb (length ns) most_numbers f.short)
      (
      from_in ns (let h = some_numbers rows f.some in omega (arith, ap length f.flat))
      (subst (λ (v : List ℕ). ill_from m k Place 0 v ≡ None) f.flat (write rows f.ranged 0))
      )

  -- Where numbers that begin with w wanted are ill formed first, at the index i from them.
  pub record IllAt (w : Want) (ns : List ℕ) (i : ℕ) : Type 0 where
    pub within : i ≤ length ns
    pub before : (j : ℕ) → j < i → fits m k (after_all w (take j ns)) (get_or ns j 0) ≡ true
    pub here : ((i ≡ length ns) × (after_all w ns ≡ Place → ⊥)) ⊎ ((i < length ns) × (fits m k (after_all w (take i ns)) (get_or ns i 0) ≡ false))

  at_end : (w : Want) → (w ≡ Place → ⊥) → IllAt w [] 0
  at_end w h = record { within = omega arith; before = λ j l. absurd (omega arith); here = inl (refl, h) }

  at_more : (w : Want) (n : ℕ) (ns : List ℕ) (i : ℕ) → fits m k w n ≡ true → IllAt (after w n) ns i → IllAt w (n ∷ ns) (suc i)
  at_more w n ns i t h = record {
    within = omega (arith, h.within);
    before = front;
    here = elim h.here [ inl x ↦ inl (omega (arith, x.0), x.1) | inr x ↦ inr (omega (arith, x.0), x.1) ];
  }
    where
      front : (j : ℕ) → j < suc i → fits m k (after_all w (take j (n ∷ ns))) (get_or (n ∷ ns) j 0) ≡ true
      front zero l = t
      front (suc j) l = h.before j (omega arith)

  some_is : (i j : ℕ) → ◌≡◌ {A = Option ℕ} (Some i) (Some j) → i ≡ j
  some_is i j e = cc

  not_place : (w : Want) (i j : ℕ) → ill_from m k w i [] ≡ Some j → (i ≡ j) × (w ≡ Place → ⊥)
  not_place Place i j e = absurd (none_is j (sym e))
  not_place Size i j e = (some_is i j e, λ x. let z : ◌≡◌ {A = ℕ} 0 1 = cc in omega arith)
  not_place (Member left least) i j e = (some_is i j e, λ x. let z : ◌≡◌ {A = ℕ} 0 1 = cc in omega arith)

  ill_first : (ns : List ℕ) (w : Want) (i j : ℕ) → ill_from m k w i ns ≡ Some j → (d : ℕ) × (j ≡ i + d) × IllAt w ns d
  ill_first [] w i j e = let (x, y) = not_place w i j e in (0, omega arith, at_end w y)
  ill_first (n ∷ ns) w i j e = go (fits m k w n) refl e (ill_first ns (after w n) (suc i) j)
    where
      go : (c : Bool) → fits m k w n ≡ c → cond c (ill_from m k (after w n) (suc i) ns) (Some i) ≡ Some j
          → (ill_from m k (after w n) (suc i) ns ≡ Some j → (d : ℕ) × (j ≡ suc i + d) × IllAt (after w n) ns d)
          → (d : ℕ) × (j ≡ i + d) × IllAt w (n ∷ ns) d
      go true t e ih = let (d, x, y) = ih e in (suc d, omega arith, at_more w n ns d t y)
      go false t e ih =
          let x = some_is i j e in
          (0, omega arith, record { within = omega arith; before = λ j l. absurd (omega arith); here = inr (omega arith, t) })

  first_of : (ns : List ℕ) (i : ℕ) → ill_in m k ns ≡ Some i → FirstIll m k ns i
  first_of [] i e =
      let x = some_is 0 i e in
      record { within = omega arith; before = λ j l. absurd (omega arith); here = inl (omega arith, inl refl) }
  first_of (n ∷ ns) i e =
      let (d, x, y) = ill_first (n ∷ ns) Place 0 i e in
      let z : d ≡ i = omega arith in
      let h : IllAt Place (n ∷ ns) i = subst (IllAt Place (n ∷ ns)) z y in
      record { within = h.within; before = h.before; here = elim h.here [ inl v ↦ inl (v.0, inr v.1) | inr v ↦ inr v ] }

  first : (ns : List ℕ) (i : ℕ) → ill m k ns ≡ Some i → ((most_numbers < length ns) × (i ≡ most_numbers)) ⊎ ((length ns ≤ most_numbers) × FirstIll m k ns i)
  first ns i e = go (leb (length ns) most_numbers) refl e
    where
      go : (c : Bool) → leb (length ns) most_numbers ≡ c → cond c (ill_in m k ns) (Some most_numbers) ≡ Some i
          → ((most_numbers < length ns) × (i ≡ most_numbers)) ⊎ ((length ns ≤ most_numbers) × FirstIll m k ns i)
      go true t e = inr (leb-true (length ns) most_numbers t, first_of ns i e)
      go false t e = inl (leb-false (length ns) most_numbers t, sym (some_is most_numbers i e))

pub format : Format
format m k ns = record {
  formed = (formed m k ns, well m k ns (rows_of ns));
  only = λ rows e. only_rows rows ns e;
  first = first m k ns;
}

-- The turns and ends of a reader's loop, at the index i of the whole list.
module _ (m k : ℕ) (w : Want) (i : ℕ) (ns : List ℕ) where
  pub ill_stop : i < length ns → fits m k w (get_or ns i 0) ≡ false → ill_from m k w i (drop i ns) ≡ Some i
  ill_stop lt bad =
      ap (ill_from m k w i) (drop-cons ns i 0 lt)
      ∙ ap (λ (t : Bool). cond t (ill_from m k (after w (get_or ns i 0)) (suc i) (drop (suc i) ns)) (Some i)) bad

  pub ill_turn :
      i < length ns →
      fits m k w (get_or ns i 0) ≡ true →
      ill_from m k w i (drop i ns) ≡ ill_from m k (after w (get_or ns i 0)) (i + 1) (drop (i + 1) ns)
  ill_turn lt ok =
      rw add-one (
      ap (ill_from m k w i) (drop-cons ns i 0 lt)
      ∙ ap (λ (t : Bool). cond t (ill_from m k (after w (get_or ns i 0)) (suc i) (drop (suc i) ns)) (Some i)) ok
      )

  pub ill_end : length ns ≤ i → ill_from m k w i (drop i ns) ≡ ill_from m k w i []
  ill_end le = ap (ill_from m k w i) (drop_of_length-le ns le)

pub ill_cut : (m k : ℕ) (w : Want) (i : ℕ) → (w ≡ Place → ⊥) → ill_from m k w i [] ≡ Some i
ill_cut m k Place i h = absurd (h refl)
ill_cut m k Size i h = refl
ill_cut m k (Member left least) i h = refl
