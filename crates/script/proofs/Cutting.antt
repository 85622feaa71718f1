-- The steps of cutting a line into tokens.
use Rattle.std.proofs.Common.{◌≡◌, ℕ, ◌+◌, ◌-◌, ◌*◌, ◌<◌, ◌≤◌, Bool, true, false, cond, not, ◌&&◌, ◌||◌, leb, List, [], ◌∷◌, ◌++◌, length, get_or, take, drop, Some, None, sym, refl, ap, ◌∙◌, append_assoc, append-nil, add-zero, one-add, arith, take-append-drop, length-drop, get_or-drop, le-ltb, lt-ltb, leb-true}
use borrow.Author.Tests.{lt-leb}
use Rattle.std.proofs.lemmas.List.{take_more}
use Rattle.std.proofs.lemmas.List.Sums.{prefix_len-le-length, prefix_len_stops}
use Rattle.std.proofs.lemmas.Bool.{and_parts, not-true, not-false}
use Rattle.std.specs.List.{prefix_len}
use Rattle.script.specs.Bytes.{Spoiled}
use Rattle.script.specs.Tokens.{sign, at, idle, Begun, begun, Placed, letter, digit, mark, known, belongs, run_token, fresh, lexed, decimal_on, decimal}
use Rattle.script.specs.Lexing.{begins, Fronts, Took, valued}
use Rattle.script.specs.declared.token.Run.{Run}
use Rattle.script.specs.declared.token.Run.TheVariants.{Letters, Digits as Numerals}
use Rattle.script.specs.declared.token.Sort.{Sort}
use Rattle.script.specs.declared.token.Sort.TheVariants.{Name, Digits}

-- The first byte that a line may not hold.
pub spoiled : (line : List ℕ) (i : ℕ) → (i < length line) × (not (known (get_or line i 0)) ≡ true) × ((k : ℕ) → k < i → not (known (get_or line k 0)) ≡ false) → Spoiled line (i + 1)
spoiled line i h = record { index = i; place = refl; inside = h.0; strange = not-true _ h.1; before = λ k l. not-false _ (h.2 k l) }

abbrev pub blank : ℕ → Bool
blank b = not (begins b)

moved : (i n b : ℕ) (bs : List ℕ) → lexed idle (i + 1 + n) (drop n bs) ≡ lexed idle (i + (1 + n)) (drop (1 + n) (b ∷ bs))
moved i n b bs =
    let e : i + 1 + n ≡ i + (1 + n) = omega arith in
    ap (λ j. lexed idle j (drop n bs)) e ∙ ap (λ m. lexed idle (i + (1 + n)) (drop m (b ∷ bs))) (sym (one-add n))

-- A byte that begins no token is passed over.
passed : (i b : ℕ) (rest : Begun → List Placed) → begins b ≡ false → fresh i b rest ≡ rest idle
passed i b rest n = go (letter b) (digit b) (mark b) n
  where
    go : (x y z : Bool) → (x || (y || z)) ≡ false
        → cond x (rest (begun Letters (b ∷ []) i)) (cond y (rest (begun Numerals (b ∷ []) i)) (cond z (at i (sign b) ∷ rest idle) (rest idle))) ≡ rest idle
    go true y z e = cc
    go false true z e = cc
    go false false true e = cc
    go false false false e = refl

-- So are all of them at the front.
pub blanked : (bs : List ℕ) (i : ℕ) → lexed idle i bs ≡ lexed idle (i + prefix_len blank bs) (drop (prefix_len blank bs) bs)
blanked [] i = ap (λ j. lexed idle j []) (sym (add-zero i))
blanked (b ∷ bs) i = go (begins b) refl (blanked bs (i + 1))
  where
    go : (x : Bool) → begins b ≡ x → lexed idle (i + 1) bs ≡ lexed idle (i + 1 + prefix_len blank bs) (drop (prefix_len blank bs) bs)
        → lexed idle i (b ∷ bs) ≡ lexed idle (i + cond (not x) (1 + prefix_len blank bs) 0) (drop (cond (not x) (1 + prefix_len blank bs) 0) (b ∷ bs))
    go true e ih = ap (λ j. lexed idle j (b ∷ bs)) (sym (add-zero i))
    go false e ih = passed i b (λ q. lexed q (i + 1) bs) e ∙ (ih ∙ moved i (prefix_len blank bs) b bs)

-- After them a token begins.
pub begins_there : (bs : List ℕ) → 0 < length (drop (prefix_len blank bs) bs) → begins (get_or (drop (prefix_len blank bs) bs) 0 0) ≡ true
begins_there bs h =
    let n = prefix_len blank bs in
    let l : n < length bs = omega (arith, length-drop n bs) in
    ap begins (get_or-drop n bs 0 0 ∙ ap (λ j. get_or bs j 0) (add-zero n)) ∙ not-false _ (prefix_len_stops blank bs 0 l)

-- A run goes on over its bytes, and ends before the next.
runs : (r : Run) (w bs : List ℕ) (s i : ℕ)
    → lexed (begun r w s) i bs ≡ at s (run_token r (w ++ take (prefix_len (belongs r) bs) bs)) ∷ lexed idle (i + prefix_len (belongs r) bs) (drop (prefix_len (belongs r) bs) bs)
runs r w [] s i = ap (λ v. at s (run_token r v) ∷ lexed idle i []) (sym (append-nil w)) ∙ ap (λ j. at s (run_token r (w ++ [])) ∷ lexed idle j []) (sym (add-zero i))
runs r w (b ∷ bs) s i = go (belongs r b) (runs r (w ++ b ∷ []) bs s (i + 1))
  where
    go : (x : Bool)
        → lexed (begun r (w ++ b ∷ []) s) (i + 1) bs
        ≡ at s (run_token r ((w ++ b ∷ []) ++ take (prefix_len (belongs r) bs) bs)) ∷ lexed idle (i + 1 + prefix_len (belongs r) bs) (drop (prefix_len (belongs r) bs) bs)
        → cond x (lexed (begun r (w ++ b ∷ []) s) (i + 1) bs) (at s (run_token r w) ∷ lexed idle i (b ∷ bs))
        ≡ at s (run_token r (w ++ take (cond x (1 + prefix_len (belongs r) bs) 0) (b ∷ bs))) ∷ lexed idle (i + cond x (1 + prefix_len (belongs r) bs) 0) (drop (cond x (1 + prefix_len (belongs r) bs) 0) (b ∷ bs))
    go true ih =
        let n = prefix_len (belongs r) bs in
        ih
        ∙ (ap (λ v. at s (run_token r v) ∷ lexed idle (i + 1 + n) (drop n bs)) (append_assoc w (b ∷ []) (take n bs) ∙ ap (λ m. w ++ take m (b ∷ bs)) (sym (one-add n)))
        ∙ ap (λ ts. at s (run_token r (w ++ take (1 + n) (b ∷ bs))) ∷ ts) (moved i n b bs))
    go false ih =
        ap (λ v. at s (run_token r v) ∷ lexed idle i (b ∷ bs)) (sym (append-nil w)) ∙ ap (λ j. at s (run_token r (w ++ [])) ∷ lexed idle j (b ∷ bs)) (sym (add-zero i))

digit_no_letter : (b : ℕ) → digit b ≡ true → letter b ≡ false
digit_no_letter b d =
    let p = and_parts (leb 48 b) (leb b 57) d in
    let h = leb-true b 57 p.1 in
    let l : b < 97 = omega arith in ap (λ x. x && leb b 122) (lt-leb 97 b l)

chosen : {A : Type 0} (x : Bool) (a b c : A) → x ≡ true → cond x a b ≡ cond x a c
chosen true a b c e = refl
chosen false a b c e = cc

-- A name or a number at the front is its run.
pub fronts_name : (bs : List ℕ) → 0 < length bs → letter (get_or bs 0 0) ≡ true → Fronts bs Name (prefix_len (belongs Letters) bs)
fronts_name [] h l = absurd (omega arith)
fronts_name (b ∷ bs) h l =
    record {
      within = prefix_len-le-length (belongs Letters) (b ∷ bs);
      cut = λ i. chosen (letter b) (lexed (begun Letters (b ∷ []) i) (i + 1) bs) _ _ l ∙ runs Letters [] (b ∷ bs) i i;
    }

pub fronts_number : (bs : List ℕ) → 0 < length bs → digit (get_or bs 0 0) ≡ true → Fronts bs Digits (prefix_len (belongs Numerals) bs)
fronts_number [] h l = absurd (omega arith)
fronts_number (b ∷ bs) h l =
    record {
      within = prefix_len-le-length (belongs Numerals) (b ∷ bs);
      cut = λ i.
          ap (λ x. cond x (lexed (begun Letters (b ∷ []) i) (i + 1) bs) (cond (digit b) (lexed (begun Numerals (b ∷ []) i) (i + 1) bs) (cond (mark b) (at i (sign b) ∷ lexed idle (i + 1) bs) (lexed idle (i + 1) bs))))
          (digit_no_letter b l)
          ∙ (chosen (digit b) (lexed (begun Numerals (b ∷ []) i) (i + 1) bs) _ _ l ∙ runs Numerals [] (b ∷ bs) i i);
    }

-- The token that is taken where so many bytes are passed over, and so many more are its own.
pub taken : (i j k n m : ℕ) (bs cs ds w : List ℕ) (x : Sort) → n ≡ prefix_len blank bs → cs ≡ drop n bs → j ≡ i + n → Fronts cs x m → w ≡ take m cs → ds ≡ drop m cs → k ≡ j + m
    → Took (lexed idle i bs) x (j + 1) w (lexed idle k ds)
taken i j k n m bs cs ds w x passed rest at f text after to = let b = blanked bs i in let c = f.cut j in cc

-- More digits make no number smaller.
decimal_more : (n : ℕ) (bs : List ℕ) → n ≤ decimal_on n bs
decimal_more n [] = omega arith
decimal_more n (b ∷ bs) = let h = decimal_more (n * 10 + (b - 48)) bs in omega arith

decimal-++ : (n : ℕ) (a b : List ℕ) → decimal_on n (a ++ b) ≡ decimal_on (decimal_on n a) b
decimal-++ n [] b = refl
decimal-++ n (x ∷ a) b = decimal-++ (n * 10 + (x - 48)) a b

pub value_more : (w : List ℕ) (i : ℕ) → i < length w → decimal (take (i + 1) w) ≡ decimal (take i w) * 10 + (get_or w i 0 - 48)
value_more w i h = ap decimal (take_more w i 0 h) ∙ decimal-++ 0 (take i w) (get_or w i 0 ∷ [])

-- Once the digits so far are too large, all of them are.
pub value_over : (w : List ℕ) (i : ℕ) → 65535 < decimal (take i w) → None ≡ valued (decimal w)
value_over w i h =
    let m = decimal_more (decimal (take i w)) (drop i w) in
    let e : decimal w ≡ decimal_on (decimal (take i w)) (drop i w) = ap decimal (sym (take-append-drop i w)) ∙ decimal-++ 0 (take i w) (drop i w) in
    sym (ap (λ b. cond b None (Some (decimal w))) (lt-ltb 65535 (decimal w) (omega arith)))

pub value_end : (n : ℕ) → n ≤ 65535 → Some n ≡ valued n
value_end n h = sym (ap (λ b. cond b None (Some n)) (le-ltb 65535 n h))
