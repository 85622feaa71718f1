-- The rows of a list, from their starts and links.
use Rattle.std.proofs.Common.{◌≡◌, ℕ, zero, suc, ◌+◌, ◌-◌, ◌*◌, ◌<◌, ◌≤◌, ◌≢◌, List, [], ◌∷◌, ◌++◌, length, get_or, take, drop, set as put, sym, ap, ◌∙◌, subst, arith, length-append, length-drop, length-set, get_or-set_other, get_or-set_same, drop_of_length-le, get_or-drop, drop-cons, drop-drop, below_more}
use native.Mathlib.Decide.{dec_lt, ℕ_discrete}
use Rattle.std.proofs.Math.Logic.{∥∥₁_elim}
use Rattle.std.proofs.Props.{props}
use Rattle.std.specs.List.{All}
use lib.Seq.{take-append_seam, drop-append_seam}
use Rattle.containment.specs.declared.index.Index.{Index}
use Rattle.containment.specs.Rows.{Row, row, row_at, Rises, Ranged}
use Rattle.containment.specs.Format.{flat}
use Rattle.containment.specs.Indexing.{Listed, Starts, Low, NextRow, AllStart, Linked, Indexed}
use Rattle.containment.proofs.Lists.{nth_in}

-- Each place of a set that rises is at most the bound.
rises_low : (least most : ℕ) (l : List ℕ) → Rises least most l → All (λ q. q < suc most) l
rises_low least most [] h i d lt = absurd (omega arith)
rises_low least most (q ∷ l) h zero d lt = let top = h.1 in omega arith
rises_low least most (q ∷ l) h (suc i) d lt = rises_low (suc q) most l h.2 i d (omega arith)

-- Row n, which begins at index s.
pub record Here (rows : List Row) (ns : List ℕ) (n s : ℕ) : Type 0 where
  pub place : get_or ns s 0 ≡ (row_at rows n).place
  pub size : get_or ns (s + 1) 0 ≡ length (row_at rows n).set
  pub room : s + 2 + length (row_at rows n).set ≤ length ns
  pub set : take (length (row_at rows n).set) (drop (s + 2) ns) ≡ (row_at rows n).set
  pub next : Starts rows ns (suc n) (s + 2 + length (row_at rows n).set)

module _ (rows : List Row) (ns : List ℕ) (n s : ℕ) (st : Starts rows ns n s) where
  pub here : n < length rows → Here rows ns n s
  here lt =
      let r = row_at rows n in
      let e : flat (r ∷ drop (suc n) rows) ≡ drop s ns = ap flat (sym (drop-cons rows n (row 0 []) lt)) ∙ st in
      let two : drop (s + 2) ns ≡ r.set ++ flat (drop (suc n) rows) = sym (drop-drop 2 s ns) ∙ ap (drop 2) (sym e) in
      record {
        place = ap (λ (k : ℕ). get_or ns k 0) (omega arith) ∙ sym (get_or-drop s ns 0 0) ∙ ap (λ (v : List ℕ). get_or v 0 0) (sym e);
        size = sym (get_or-drop s ns 1 0) ∙ ap (λ (v : List ℕ). get_or v 1 0) (sym e);
        room = omega (arith, ap length e, length-drop s ns, length-append r.set (flat (drop (suc n) rows)));
        set = ap (take (length r.set)) two ∙ take-append_seam r.set (flat (drop (suc n) rows));
        next = sym (drop-append_seam r.set (flat (drop (suc n) rows))) ∙ ap (drop (length r.set)) (sym two) ∙ drop-drop (length r.set) (s + 2) ns;
      }

  -- A row is left where numbers are, and only there.
  pub row_left : s < length ns → n < length rows
  row_left lt =
      elim (dec_lt n (length rows)) [
        | yes l ↦ l
        | no f ↦
            let e : [] ≡ drop s ns = ap flat (sym (drop_of_length-le rows (omega (arith, f)))) ∙ st in
            absurd (omega (arith, ap length e, length-drop s ns, lt))
      ]

  pub none_left : length ns ≤ s → length rows ≤ n
  none_left le = elim (dec_lt n (length rows)) [ yes l ↦ let h = here l in absurd (omega (arith, h.room, le)) | no f ↦ omega (arith, f) ]

-- The rows below number `count` are noted, and the next begins at index s.
pub record Noted (rows : List Row) (ns starts : List ℕ) (count s : ℕ) : Type 0 where
  pub at : Starts rows ns count s
  pub all : AllStart rows ns starts count
  pub half : 2 * count ≤ s
  pub top : s ≤ length ns
  pub within : count ≤ length rows
  pub long : length starts ≡ 8192

module _ (rows : List Row) (ns starts : List ℕ) (count s : ℕ) (h : Noted rows ns starts count s) where
  pub noted_row : s < length ns → Here rows ns count s
  noted_row lt = here rows ns count s h.at (row_left rows ns count s h.at lt)

  pub noted_more : length ns ≤ 16384 → s < length ns → Noted rows ns (put starts count s) (count + 1) (s + (2 + get_or ns (s + 1) 0))
  noted_more short lt =
      let x = noted_row lt in
      let l = row_left rows ns count s h.at lt in
      let half = h.half in
      let long = h.long in
      let e : s + 2 + length (row_at rows count).set ≡ s + (2 + get_or ns (s + 1) 0) = omega (arith, x.size) in
      record {
        at = let c : suc count ≡ count + 1 = omega arith in subst (λ v. Starts rows ns v (s + (2 + get_or ns (s + 1) 0))) c (subst (Starts rows ns (suc count)) e x.next);
        all = below_more _ _ (λ j b. subst (Starts rows ns j) (sym (get_or-set_other starts count j s 0 (omega arith))) (h.all j b)) (subst (Starts rows ns count) (sym (get_or-set_same starts count s 0 (omega arith))) h.at);
        half = omega arith;
        top = let room = x.room in omega arith;
        within = omega arith;
        long = length-set starts count s ∙ long;
      }

  pub noted_all : length ns ≤ 16384 → length ns ≤ s → (count ≡ length rows) × (count ≤ 8192) × AllStart rows ns starts (length rows)
  noted_all short le =
      let w = h.within in
      let e : count ≡ length rows = let n = none_left rows ns count s h.at le in omega arith in
      let half = h.half in
      let top = h.top in
      (e, omega arith, subst (AllStart rows ns starts) e h.all)

-- No row is linked yet.
pub linked_none : (rows : List Row) (nexts firsts : List ℕ) → ((f : ℕ) → f < 129 → get_or firsts f 0 ≡ length rows) → Linked rows nexts firsts (length rows)
linked_none rows nexts firsts e = record {
  next = λ i l h. absurd (omega arith);
  first = λ f b. subst (NextRow rows f (length rows)) (sym (e f b)) (record { low = omega arith; high = omega arith; none = λ n l h x. omega arith; here = λ h. absurd (omega arith) });
}

-- One more row is linked.
module _ (rows : List Row) (nexts firsts : List ℕ) (n : ℕ) (h : Linked rows nexts firsts (suc n)) (lt : n < length rows) (long : length nexts ≡ 8192) (wide : length firsts ≡ 129) (few : n < 8192)
    (p : ℕ) (is : (row_at rows n).place ≡ p) (low : p < 129) where
  next_more : (i : ℕ) → n ≤ i → i < length rows → NextRow rows (row_at rows i).place (suc i) (get_or (put nexts n (get_or firsts p 0)) i 0)
  next_more i l b =
      elim (ℕ_discrete i n) [
        | yes e ↦
            let v : NextRow rows (row_at rows n).place (suc n) (get_or (put nexts n (get_or firsts p 0)) n 0) =
            subst (λ f. NextRow rows f (suc n) (get_or (put nexts n (get_or firsts p 0)) n 0)) (sym is) (subst (NextRow rows p (suc n)) (sym (get_or-set_same nexts n (get_or firsts p 0) 0 (omega arith))) (h.first p low)) in
            subst (λ i. NextRow rows (row_at rows i).place (suc i) (get_or (put nexts n (get_or firsts p 0)) i 0)) (sym e) v
        | no ne ↦ subst (NextRow rows (row_at rows i).place (suc i)) (sym (get_or-set_other nexts n i (get_or firsts p 0) 0 ne)) (h.next i (omega arith) b)
      ]

  wider : (f j : ℕ) → f ≢ p → NextRow rows f (suc n) j → NextRow rows f n j
  wider f j ne x = record {
    low = let l = x.low in omega arith;
    high = x.high;
    none = λ m l b e. elim (ℕ_discrete m n) [ yes s ↦ ne (sym e ∙ ap (λ v. (row_at rows v).place) s ∙ is) | no d ↦ x.none m (omega arith) b e ];
    here = x.here;
  }

  first_more : (f : ℕ) → f < 129 → NextRow rows f n (get_or (put firsts p n) f 0)
  first_more f b =
      elim (ℕ_discrete f p) [
        | yes e ↦
            let v : NextRow rows f n n = record { low = omega arith; high = omega arith; none = λ m l k x. omega arith; here = λ k. is ∙ sym e } in
            subst (NextRow rows f n) (sym (ap (λ q. get_or (put firsts p n) q 0) e ∙ get_or-set_same firsts p n 0 (omega arith))) v
        | no ne ↦ subst (NextRow rows f n) (sym (get_or-set_other firsts p f n 0 ne)) (wider f (get_or firsts f 0) ne (h.first f b))
      ]

  pub linked_more : (nexts' firsts' : List ℕ) → nexts' ≡ put nexts n (get_or firsts p 0) → firsts' ≡ put firsts p n → Linked rows nexts' firsts' n
  linked_more nexts' firsts' e e' =
      subst (λ v. Linked rows v firsts' n) (sym e) (subst (λ v. Linked rows (put nexts n (get_or firsts p 0)) v n) (sym e') (record { next = next_more; first = first_more }))

-- What is read of row n at its start s.
module _ (rows : List Row) (ns starts : List ℕ) (l : Listed rows ns) (st : AllStart rows ns starts (length rows)) (n : ℕ) (lt : n < length rows) (s : ℕ) (is : s ≡ get_or starts n 0) where
  pub at_start : Here rows ns n s
  at_start = here rows ns n s (subst (Starts rows ns n) (sym is) (st n lt)) lt

  in_range : Ranged 128 128 (row_at rows n)
  in_range = l.ranged (row_at rows n) (nth_in (row 0 []) rows n lt)

  pub start_in : s < length ns
  start_in = omega (arith, at_start.room)

  pub place_low : get_or ns s 0 < 129
  place_low = omega (arith, at_start.place, in_range.place)

  module _ (z : ℕ) (e : z ≡ get_or ns (s + 1) 0) where
    pub set_read : take (s + 2 + z - (s + 2)) (drop (s + 2) ns) ≡ (row_at rows n).set
    set_read = ap (λ (k : ℕ). take k (drop (s + 2) ns)) (omega (arith, at_start.size)) ∙ at_start.set

    pub set_low : Low (take (s + 2 + z - (s + 2)) (drop (s + 2) ns))
    set_low = subst Low (sym set_read) (rises_low 0 128 (row_at rows n).set in_range.set)

rises_prop : (least most : ℕ) (l : List ℕ) → IsProp (Rises least most l)
rises_prop least most [] = hlevel props
rises_prop least most (q ∷ l) = let h = rises_prop (suc q) most l in hlevel props

indexed_prop : (ns : List ℕ) (count : ℕ) (starts nexts firsts : List ℕ) → IsProp (Indexed ns count starts nexts firsts)
indexed_prop ns count starts nexts firsts = hlevel (props, rises_prop)

-- What an index keeps.
pub known : (x : Index) → Indexed x.numbers.now x.count x.starts x.nexts x.firsts
known x = ∥∥₁_elim x.indexed (indexed_prop x.numbers.now x.count x.starts x.nexts x.firsts) (λ h. h)
