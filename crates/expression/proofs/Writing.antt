-- Items written into a buffer as far as there is room, and the letters of codes.
use Rattle.std.proofs.Common.{◌≡◌, ℕ, suc, ◌+◌, ◌-◌, ◌^◌, ◌<◌, ◌≤◌, ◌⊎◌, List, [], ◌∷◌, ◌++◌, length, drop, set, Some, None, Ok, Err, Option, Result, sym, refl, ap, ◌∙◌, inl, inr, add-zero, arith, length-set}
use lib.Seq.{set_out}
use Rattle.std.specs.List.{filter_map, cons_option}
use Rattle.std.specs.Result.{OkIff, result_unwrap_or}
use Rattle.expression.specs.Spelling.{written}

module _ {A : Type 0} where
  pub written_append : (xs ys : List A) (n : ℕ) (buf : List A) → written (xs ++ ys) n buf ≡ written ys (n + length xs) (written xs n buf)
  written_append [] ys n buf = rw add-zero
  written_append (x ∷ xs) ys n buf =
      let e : (n + 1) + length xs ≡ n + length (x ∷ xs) = omega arith in
      written_append xs ys (n + 1) (set buf n x) ∙ ap (λ m. written ys m (written xs (n + 1) (set buf n x))) e

  written_past : (xs : List A) (n : ℕ) (b : A) (buf : List A) → written xs (suc n) (b ∷ buf) ≡ b ∷ written xs n buf
  written_past [] n b buf = refl
  written_past (x ∷ xs) n b buf = let e : suc n + 1 ≡ suc (n + 1) = omega arith in rw e (written_past xs (n + 1) b (set buf n x))

  pub length_written : (xs : List A) (n : ℕ) (buf : List A) → length (written xs n buf) ≡ length buf
  length_written [] n buf = refl
  length_written (x ∷ xs) n buf = length_written xs (n + 1) (set buf n x) ∙ length-set buf n x

  -- Past the end nothing is written.
  written_past_end : (xs : List A) (n : ℕ) (buf : List A) → length buf ≤ n → written xs n buf ≡ buf
  written_past_end [] n buf h = refl
  written_past_end (x ∷ xs) n buf h = let e = set_out buf n x h in rw e (written_past_end xs (n + 1) buf (omega arith))

  -- Items written after m others, where a place past the end of the buffer stands for every other such place.
  pub written_after : (xs : List A) (n m k : ℕ) (buf : List A) → (k ≡ n + m) ⊎ ((length buf ≤ k) × (length buf ≤ n + m)) → written xs k buf ≡ written xs (n + m) buf
  written_after xs n m k buf (inl e) = rw e
  written_after xs n m k buf (inr h) = written_past_end xs k buf h.0 ∙ sym (written_past_end xs (n + m) buf h.1)

  -- Where there is room, the items come first and then what stood there.
  pub written_all : (xs buf : List A) → length xs ≤ length buf → written xs 0 buf ≡ xs ++ drop (length xs) buf
  written_all [] buf h = refl
  written_all (x ∷ xs) [] h = absurd (omega arith)
  written_all (x ∷ xs) (b ∷ buf) h = written_past xs 0 x buf ∙ ap (λ l. x ∷ l) (written_all xs buf (omega arith))

-- A place that stands for place n where numbers end.
pub set_capped : {A E : Type 0} (buf buf' : List A) (n k : ℕ) (x : A) (r : Result ℕ E) → buf' ≡ set buf k x → OkIff r (n < 2 ^ 64) n → k ≡ result_unwrap_or r (2 ^ 64 - 1) → length buf < 2 ^ 64 → buf' ≡ set buf n x
set_capped buf buf' n k x (Ok m) p h e l = rw (e, h.1) at p
set_capped buf buf' n k x (Err f) p h e l = p ∙ set_out buf k x (omega (arith, e)) ∙ sym (set_out buf n x (omega (arith, h)))

cons_long : {A : Type 0} (o : Option A) (xs : List A) (n : ℕ) → length xs ≤ n → length (cons_option o xs) ≤ suc n
cons_long None xs n h = omega arith
cons_long (Some x) xs n h = omega arith

pub filtered_short : {A B : Type 0} (f : A → Option B) (xs : List A) → length (filter_map f xs) ≤ length xs
filtered_short f [] = omega arith
filtered_short f (x ∷ xs) = cons_long (f x) (filter_map f xs) (length xs) (filtered_short f xs)
