-- A byte and its code give each other. This file serves the proofs only: the impl of bytes names its two lemmas, `back` and `only`.
use Rattle.std.specs.Prelude.{◌≡◌, ℕ, ◌<◌, Some}
use Rattle.std.proofs.Common.{arith}
use Rattle.alphabet.specs.Codes.{byte_letter}

-- The code of a byte gives that byte.
pub back : (l : ℕ) → l < 256 → byte_letter l ≡ Some l
back l h = grind arith

-- A code that gives a byte is that byte's code.
pub only : (c l : ℕ) → byte_letter c ≡ Some l → (l < 256) × (l ≡ c)
only c l e = grind arith
