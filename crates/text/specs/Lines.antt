-- The lines of a text. Each ends at a byte 10, and the last one may lack it.
use Rattle.std.specs.Prelude.{ℕ, if◌then◌else◌, List, [], ◌∷◌, ◌==◌}

-- A byte before the first line: one more byte of it, or a line of its own where there is none.
abbrev pub lengthened : ℕ → List (List ℕ) → List (List ℕ)
lengthened b [] = (b ∷ []) ∷ []
lengthened b (l ∷ ls) = (b ∷ l) ∷ ls

-- The lines, in order, without their bytes 10: an empty text has none, and a last byte 10 opens none.
abbrev pub lines : List ℕ → List (List ℕ)
lines [] = []
lines (b ∷ bs) = if b == 10 then [] ∷ lines bs else lengthened b (lines bs)
