-- The work of a reading: which places can finish which letters.
use Rattle.std.specs.Prelude.{◌≡◌, ℕ, ◌+◌, ◌*◌, ◌≤◌, Bool, if◌then◌else◌, List, [], ◌∷◌, ◌++◌, map, length, drop, slice_index}
use Rattle.std.specs.List.{range_with_len}
use Rattle.expression.specs.Expressions.{Expr}
use Rattle.expression.specs.Places.{letter_count, finishes}

abbrev pub bit : Bool → ℕ
bit b = if b then 1 else 0

-- A row: for each place from 0 to the last, 1 if it can finish the letters, else 0.
abbrev pub row : Expr → List ℕ → List ℕ
row e w = map (λ p. bit (finishes e w p)) (range_with_len 0 (letter_count e + 1))

-- A row for the letters after the first t, for each t from 0 to their number.
abbrev pub rows : Expr → List ℕ → List ℕ
rows e [] = row e []
rows e (a ∷ w) = row e (a ∷ w) ++ rows e w

-- The number of work bytes.
abbrev pub work_size : Expr → List ℕ → ℕ
work_size e w = (length w + 1) * (letter_count e + 1)

-- With k places, byte t × (k + 1) + p of the rows tells whether place p can finish the letters after the first t.
pub record Indexed : Type 0 where
  pub size : (e : Expr) (w : List ℕ) → length (rows e w) ≡ work_size e w
  pub byte : (e : Expr) (w : List ℕ) (t p : ℕ) → t ≤ length w → p ≤ letter_count e
      → slice_index (rows e w) (t * (letter_count e + 1) + p) ≡ bit (finishes e (drop t w) p)
