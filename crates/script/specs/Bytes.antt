-- Bytes that a line may hold, and the first that it may not.
use Rattle.std.specs.Prelude.{◌≡◌, ℕ, ◌+◌, ◌<◌, true, false, List, length, slice_index}
use Rattle.script.specs.Tokens.{known}
use Rattle.script.specs.declared.fault.TokenFault.{TokenFault}
use Rattle.script.specs.declared.fault.TokenFault.TheVariants.{BadByte, TooLarge}

-- Each of the first n bytes is a token's or a space.
abbrev pub Known : List ℕ → ℕ → Type 0
Known line n = (i : ℕ) → i < n → known (slice_index line i) ≡ true

-- The first byte that is neither stands at the place p, from 1.
pub record Spoiled (line : List ℕ) (p : ℕ) : Type 0 where
  pub index : ℕ
  pub place : p ≡ index + 1
  pub inside : index < length line
  pub strange : known (slice_index line index) ≡ false
  pub before : Known line index

-- The fault tells that byte.
abbrev pub Spoils : List ℕ → TokenFault → Type 0
Spoils line (BadByte p) = Spoiled line p
Spoils line (TooLarge p) = ⊥
