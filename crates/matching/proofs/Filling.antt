-- Filling the work, row by row from the end.
use Rattle.std.proofs.Common.{◌≡◌, ℕ, ◌+◌, ◌-◌, ◌*◌, ◌≤◌, List, [], ◌∷◌, ◌++◌, map, length, take, drop, sym, ap, ◌∙◌, append_assoc, append-nil, add-mul, mul-le-mul_right, arith, length-append, length-drop, length-take}
use Rattle.std.proofs.lemmas.List.{length-map, nil_from_length, take_all, drop_all, drop_at, drop-drop, length-take-le}
use Rattle.std.specs.List.{push}
use borrow.Rule.Slice.PartMut.{put_mid}
use Rattle.expression.specs.Expressions.{Expr}
use Rattle.expression.specs.Places.{letter_count}
use Rattle.matching.specs.Rows.{row, rows}
use Rattle.matching.specs.Written.{written}
use Rattle.matching.specs.Passes.{RowAt}
use Rattle.matching.proofs.RowLaws.{count_row, count_rows, rows_begin}

-- The bytes from a on, after a write there.
tail_is : (a : ℕ) (xs : List ℕ) → take (length xs - a) (drop a xs) ≡ drop a xs
tail_is a xs = take_all (length xs - a) (drop a xs) (omega (arith, length-drop a xs))

tail_put : (a : ℕ) (xs ys : List ℕ) → a ≤ length xs → drop a (put_mid a (length xs - a) xs ys) ≡ ys
tail_put a xs ys h =
    drop_at (take a xs) (ys ++ drop (length xs - a) (drop a xs)) a (length-take-le a xs h)
    ∙ ap (λ (l : List ℕ). ys ++ l) (drop_all (length xs - a) (drop a xs) (omega (arith, length-drop a xs))) ∙ append-nil ys

same_tail : (a : ℕ) (xs ys : List ℕ) → a ≤ length xs → length ys ≡ length (take (length xs - a) (drop a xs)) → length (put_mid a (length xs - a) xs ys) ≡ length xs
same_tail a xs ys h q = simp (length-append, q, length-take, length-drop) (omega arith)

-- The letters but the last ones are left, and the rows of those, each of k bytes, are filled.
pub record Filled {L : Type 0} (coded : L → ℕ) (e : Expr) (k : ℕ) (letters rest : List L) (old work : List ℕ) : Type 0 where
  pub done : List L
  pub letters_are : letters ≡ rest ++ done
  pub long : length work ≡ length old
  pub filled : drop (length rest * k) work ≡ rows e (map coded done) ++ drop ((length letters + 1) * k) old

-- A row fits.
pub row_fits : (t n k long : ℕ) → t ≤ n → (n + 1) * k ≤ long → t * k + k ≤ long
row_fits t n k long h r = let a : t + 1 ≤ n + 1 = omega arith in let m = mul-le-mul_right k a in let d = add-mul t 1 k in omega arith

module _ {L : Type 0} (coded : L → ℕ) (e : Expr) (k : ℕ) (wide : k ≡ letter_count e + 1) (letters : List L) (old : List ℕ) (rows_fit : (length letters + 1) * (letter_count e + 1) ≤ length old) where
  room : (length letters + 1) * k ≤ length old
  room = rw wide rows_fit

  pub filled_start : (rest : List L) (bytes : List ℕ) → rest ≡ letters → length bytes ≡ length (take (length old - length letters * k) (drop (length letters * k) old)) → bytes ≡ written (row e []) (take (length old - length letters * k) (drop (length letters * k) old))
      → Filled coded e k letters rest old (put_mid (length letters * k) (length old - length letters * k) old bytes)
  filled_start rest bytes r m q =
      let fits = row_fits (length letters) (length letters) k (length old) (omega arith) room in
      let d = add-mul (length letters) 1 k in
      let at : length letters * k + length (row e []) ≡ (length letters + 1) * k = omega (arith, count_row e []) in
      record {
        done = [];
        letters_are = sym r ∙ sym (append-nil rest);
        long = same_tail (length letters * k) old bytes (omega arith) m;
        filled =
            ap (λ (l : List L). drop (length l * k) (put_mid (length letters * k) (length old - length letters * k) old bytes)) r
            ∙ tail_put (length letters * k) old bytes (omega arith) ∙ q
            ∙ ap (λ (l : List ℕ). row e [] ++ drop (length (row e [])) l) (tail_is (length letters * k) old)
            ∙ ap (λ (l : List ℕ). row e [] ++ l) (drop-drop (length (row e [])) (length letters * k) old ∙ ap (λ (i : ℕ). drop i old) at);
      }

  module _ {rest : List L} {work : List ℕ} (f : Filled coded e k letters rest old work) where
    -- One more row, of the letter x, which has number t.
    module _ (less : List L) (x : L) (is : rest ≡ push less x) (t : ℕ) (t-is : t ≡ length less) where
      before_end : t + 1 ≤ length letters
      before_end =
          let a = ap length f.letters_are in let b = ap length is in omega (arith, length-append rest f.done, length-append less (x ∷ []))

      next_fits : t * k + k ≤ length work
      next_fits = let h = before_end in let z = row_fits t (length letters) k (length old) (omega arith) room in omega (arith, f.long)

      abbrev later : List ℕ
      later = rows e (map coded f.done) ++ drop ((length letters + 1) * k) old

      -- What stands after the row.
      later_is : drop (letter_count e + 1) (take (length work - t * k) (drop (t * k) work)) ≡ later
      later_is =
          let d = add-mul t 1 k in
          let b = ap length is in
          let at : t * k + (letter_count e + 1) ≡ (t + 1) * k = omega arith in
          let n : t + 1 ≡ length rest = omega (arith, length-append less (x ∷ [])) in
          ap (drop (letter_count e + 1)) (tail_is (t * k) work) ∙ drop-drop (letter_count e + 1) (t * k) work
          ∙ ap (λ (i : ℕ). drop i work) (at ∙ ap (λ (i : ℕ). i * k) n) ∙ f.filled

      pub filled_next : {a : ℕ} → a ≡ coded x → {bytes : List ℕ} → length bytes ≡ length (take (length work - t * k) (drop (t * k) work))
          → ((w : List ℕ) → RowAt e w (drop (letter_count e + 1) (take (length work - t * k) (drop (t * k) work))) → bytes ≡ written (row e (a ∷ w)) (take (length work - t * k) (drop (t * k) work)))
          → Filled coded e k letters less old (put_mid (t * k) (length work - t * k) work bytes)
      filled_next {a} q {bytes} m step =
          let w = map coded f.done in
          let fits = next_fits in
          let tells : RowAt e w (drop (letter_count e + 1) (take (length work - t * k) (drop (t * k) work))) = rw later_is (rows_begin e w (drop ((length letters + 1) * k) old)) in
          record {
            done = x ∷ f.done;
            letters_are = f.letters_are ∙ ap (λ (l : List L). l ++ f.done) is ∙ append_assoc less (x ∷ []) f.done;
            long = same_tail (t * k) work bytes (omega arith) m ∙ f.long;
            filled =
                ap (λ (i : ℕ). drop (i * k) (put_mid (t * k) (length work - t * k) work bytes)) (sym t-is) ∙ tail_put (t * k) work bytes (omega arith) ∙ step w tells
                ∙ ap (λ (i : ℕ). row e (a ∷ w) ++ drop i (take (length work - t * k) (drop (t * k) work))) (count_row e (a ∷ w))
                ∙ ap (λ (l : List ℕ). row e (a ∷ w) ++ l) later_is ∙ sym (append_assoc (row e (a ∷ w)) (rows e w) (drop ((length letters + 1) * k) old))
                ∙ ap (λ (c : ℕ). rows e (c ∷ w) ++ drop ((length letters + 1) * k) old) q;
          }

    pub filled_all : length rest ≡ 0 → work ≡ written (rows e (map coded letters)) old
    filled_all none =
        let empty = nil_from_length rest none in
        let all : f.done ≡ letters = sym (f.letters_are ∙ ap (λ (l : List L). l ++ f.done) empty) in
        let start : length rest * k ≡ 0 = rw none (omega arith) in
        let size : (length letters + 1) * k ≡ length (rows e (map coded letters)) = rw wide (sym (count_rows e (map coded letters) ∙ ap (λ (n : ℕ). (n + 1) * (letter_count e + 1)) (length-map letters coded))) in
        ap (λ (i : ℕ). drop i work) (sym start) ∙ f.filled ∙ ap (λ (l : List L). rows e (map coded l) ++ drop ((length letters + 1) * k) old) all
        ∙ ap (λ (i : ℕ). rows e (map coded letters) ++ drop i old) size
