-- Rows of work.
use Rattle.std.proofs.Common.{◌≡◌, ℕ, zero, suc, ◌+◌, ◌-◌, ◌*◌, ◌<◌, ◌≤◌, Bool, true, false, eqb, List, [], ◌∷◌, ◌++◌, length, get_or, drop, append-nil, sym, refl, ap, ◌∙◌, add-mul, arith, length-append}
use Rattle.std.proofs.lemmas.List.FromFn.{fill_by_all, length-map-range_with_len, get_or-map-range_with_len}
use Rattle.std.proofs.lemmas.List.{length-map, get_or-map, get_or_append_left, get_or-append_right, drop_all}
use Rattle.expression.specs.Expressions.{Expr}
use Rattle.expression.specs.Places.{letter_count, Item, continuation, all_admit_empty, finishes}
use Rattle.expression.specs.Spelling.{written as lay}
use Rattle.expression.proofs.Writing.{written_all}
use Rattle.expression.specs.declared.layout.Layout.{Layout}
use Rattle.matching.specs.Holding.{whole}
use Rattle.matching.specs.Rows.{bit, row, rows, work_size, Indexed}
use Rattle.matching.specs.Written.{written}
use Rattle.matching.specs.Passes.{reaches, usable, bits, afters, RowAt}
use Rattle.matching.proofs.Legs.{finishes_by}
use Rattle.matching.proofs.Passes.{enters_none, count_continuations}

reaches_none : (k : List Item) → reaches 0 (usable []) k true ≡ all_admit_empty k
reaches_none [] = refl
reaches_none (x ∷ k) = rw (enters_none 0 x.before x.expr, reaches_none k)

-- The bytes of a row, by what is to come after each place.
row_by : (e : Expr) (w : List ℕ) (a : ℕ) (next : ℕ → Bool) (end : Bool) → ((p : ℕ) → finishes e w p ≡ reaches a next (continuation e p) end) → bits a next end (afters e) ≡ row e w
row_by e w a next end h =
    fill_by_all (λ p. bit (finishes e w p)) (bits a next end (afters e)) (letter_count e + 1) 0 long
    (λ k l. get_or-map (λ x. bit (reaches a next x end)) (afters e) k [] 0 (omega (arith, short)) ∙ ap bit (sym (h k)))
  where
    short : length (afters e) ≡ letter_count e + 1
    short = let z = count_continuations 0 e [] in omega arith

    long : length (bits a next end (afters e)) ≡ letter_count e + 1
    long = length-map (afters e) (λ x. bit (reaches a next x end)) ∙ short

row_end : (e : Expr) → bits 0 (usable []) true (afters e) ≡ row e []
row_end e = row_by e [] 0 (usable []) true (λ p. sym (reaches_none (continuation e p)))

pub count_row : (e : Expr) (w : List ℕ) → length (row e w) ≡ letter_count e + 1
count_row e w = length-map-range_with_len (λ p. bit (finishes e w p)) 0 (letter_count e + 1)

-- A row that is written with what is told where no letter is left.
pub end_written : (l l' : Layout) (a : ℕ) (next u v : List ℕ) → letter_count (whole l) < length u → l' ≡ l → a ≡ 0 → next ≡ [] → v ≡ lay (bits a (usable next) true (afters (whole l'))) 0 u
    → v ≡ written (row (whole l) []) u
end_written l l' a next u v h p q r s =
    s ∙ ap (λ (m : Layout). lay (bits a (usable next) true (afters (whole m))) 0 u) p ∙ ap (λ (c : ℕ). lay (bits c (usable next) true (afters (whole l))) 0 u) q
    ∙ ap (λ (k : List ℕ). lay (bits 0 (usable k) true (afters (whole l))) 0 u) r ∙ ap (λ (x : List ℕ). lay x 0 u) (row_end (whole l))
    ∙ written_all (row (whole l) []) u (omega (arith, count_row (whole l) []))

pub usable_right : (e : Expr) (w bytes : List ℕ) → RowAt e w bytes → (q : ℕ) → q ≤ letter_count e → usable bytes q ≡ finishes e w q
usable_right e w bytes r q l = ap (λ (x : ℕ). eqb x 1) (r q l) ∙ bit_one (finishes e w q)
  where
    bit_one : (b : Bool) → eqb (bit b) 1 ≡ b
    bit_one true = refl
    bit_one false = refl

row_next : (e : Expr) (a : ℕ) (w next : List ℕ) → RowAt e w next → bits a (usable next) false (afters e) ≡ row e (a ∷ w)
row_next e a w next r = row_by e (a ∷ w) a (usable next) false (finishes_by e a w (usable next) (usable_right e w next r))

-- A row u that is written with what is told of a letter, where k is the rest of the bytes.
pub next_written : (l l' : Layout) (a b : ℕ) (w next u v k old : List ℕ) (m : ℕ) → m ≡ letter_count (whole l) + 1 → length u ≡ m → k ≡ drop m old → RowAt (whole l) w (drop (letter_count (whole l) + 1) old)
    → l' ≡ l → b ≡ a → next ≡ k → v ≡ lay (bits b (usable next) false (afters (whole l'))) 0 u → v ++ k ≡ written (row (whole l) (a ∷ w)) old
next_written l l' a b w next u v k old m wide n d t p q r s =
    let long = count_row (whole l) (a ∷ w) in
    let t' : RowAt (whole l) w k = rw (d, wide) t in
    let full : drop (length (row (whole l) (a ∷ w))) u ≡ [] = drop_all (length (row (whole l) (a ∷ w))) u (omega arith) in
    let v-is : v ≡ row (whole l) (a ∷ w) =
    s ∙ ap (λ (x : Layout). lay (bits b (usable next) false (afters (whole x))) 0 u) p ∙ ap (λ (c : ℕ). lay (bits c (usable next) false (afters (whole l))) 0 u) q
    ∙ ap (λ (x : List ℕ). lay (bits a (usable x) false (afters (whole l))) 0 u) r ∙ ap (λ (x : List ℕ). lay x 0 u) (row_next (whole l) a w k t')
    ∙ written_all (row (whole l) (a ∷ w)) u (omega arith) ∙ ap (λ (x : List ℕ). row (whole l) (a ∷ w) ++ x) full ∙ append-nil (row (whole l) (a ∷ w)) in
    let m-is : m ≡ length (row (whole l) (a ∷ w)) = omega arith in
    ap (λ (x : List ℕ). x ++ k) v-is ∙ ap (λ (x : List ℕ). row (whole l) (a ∷ w) ++ x) (d ∙ ap (λ (i : ℕ). drop i old) m-is)

-- Rows by their indices.
row_byte : (e : Expr) (w : List ℕ) → RowAt e w (row e w)
row_byte e w p h = get_or-map-range_with_len (λ p. bit (finishes e w p)) 0 (letter_count e + 1) p p 0 (omega arith) (omega arith)

pub count_rows : (e : Expr) (w : List ℕ) → length (rows e w) ≡ work_size e w
count_rows e [] = count_row e [] ∙ (let z = count_row e [] in one (letter_count e + 1))
  where
    one : (k : ℕ) → k ≡ (0 + 1) * k
    one k = omega arith
count_rows e (a ∷ w) = length-append (row e (a ∷ w)) (rows e w) ∙ rw (count_row e (a ∷ w), count_rows e w) (more (length w) (letter_count e + 1))
  where
    more : (n k : ℕ) → k + (n + 1) * k ≡ (suc n + 1) * k
    more n k = let x = add-mul (n + 1) 1 k in let z : suc n + 1 ≡ (n + 1) + 1 = omega arith in rw z (omega arith)

-- What begins with a row tells what the row does.
pub row_begins : (e : Expr) (w l : List ℕ) → RowAt e w (row e w ++ l)
row_begins e w l p h = get_or_append_left (row e w) l 0 p (let z = count_row e w in omega arith) ∙ row_byte e w p h

-- The row of all letters comes first.
rows_first : (e : Expr) (w : List ℕ) → RowAt e w (rows e w)
rows_first e [] = row_byte e []
rows_first e (a ∷ w) = row_begins e (a ∷ w) (rows e w)

pub rows_begin : (e : Expr) (w l : List ℕ) → RowAt e w (rows e w ++ l)
rows_begin e w l p h =
    get_or_append_left (rows e w) l 0 p (let z = count_rows e w in let d = add-mul (length w) 1 (letter_count e + 1) in omega arith) ∙ rows_first e w p h

rows_byte : (e : Expr) (w : List ℕ) (t p : ℕ) → t ≤ length w → p ≤ letter_count e → get_or (rows e w) (t * (letter_count e + 1) + p) 0 ≡ bit (finishes e (drop t w) p)
rows_byte e w zero p h l = ap (λ (i : ℕ). get_or (rows e w) i 0) (start (letter_count e + 1)) ∙ rows_first e w p l
  where
    start : (k : ℕ) → 0 * k + p ≡ p
    start k = omega arith
rows_byte e [] (suc t) p h l = absurd (omega arith)
rows_byte e (a ∷ w) (suc t) p h l =
    get_or-append_right (row e (a ∷ w)) (rows e w) (letter_count e + 1) (suc t * (letter_count e + 1) + p) 0 (count_row e (a ∷ w)) (past t (letter_count e + 1))
    ∙ ap (λ (i : ℕ). get_or (rows e w) i 0) (back t (letter_count e + 1)) ∙ rows_byte e w t p (omega arith) l
  where
    step : (t k : ℕ) → suc t * k ≡ t * k + k
    step t k = let x = add-mul t 1 k in let z : suc t ≡ t + 1 = omega arith in rw z (omega arith)

    past : (t k : ℕ) → k ≤ suc t * k + p
    past t k = let z = step t k in omega arith

    back : (t k : ℕ) → suc t * k + p - k ≡ t * k + p
    back t k = let z = step t k in omega arith

pub indexed : Indexed
indexed = record { size = count_rows; byte = rows_byte }
