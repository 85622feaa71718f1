-- What the code's tokens stand for in a line. This file serves the proofs only.
use Rattle.std.specs.Prelude.{◌≡◌, ◌≢◌, ℕ, ◌+◌, ◌≤◌, Bool, if◌then◌else◌, ◌||◌, List, [], ◌∷◌, length, take, drop, Some, None, Option, nat_lt}
use Rattle.script.specs.Dialects.{Dialect}
use Rattle.script.specs.Machine.{Want, fits, going, walk, Told}
use Rattle.script.specs.Tokens as spec
use Rattle.script.specs.Tokens.{Placed, at, lexed, idle, word, number, sign, letter, digit, mark, decimal}
use Rattle.script.specs.declared.fault.FormFault.{FormFault}
use Rattle.script.specs.declared.token.Sort.{Sort}
use Rattle.script.specs.declared.token.Sort.TheVariants.{Open, Close, Dash, Name, Digits, End}

-- A byte that begins a token.
abbrev pub begins : ℕ → Bool
begins b = letter b || (digit b || mark b)

-- What a token of the sort stands for, by its bytes.
abbrev pub meaning : Sort → List ℕ → spec.Token
meaning Open w = spec.opening
meaning Close w = spec.closing
meaning Dash w = sign 45
meaning Name w = word w
meaning Digits w = number (decimal w)
meaning End w = spec.finish

-- The tokens after one of the sort: none after the line's end.
abbrev pub onward : Sort → List Placed → List Placed
onward Open ts = ts
onward Close ts = ts
onward Dash ts = ts
onward Name ts = ts
onward Digits ts = ts
onward End ts = []

-- The bytes begin with a token of the sort, which has so many of them.
pub record Fronts (bytes : List ℕ) (x : Sort) (count : ℕ) : Type 0 where
  pub within : count ≤ length bytes
  pub cut : (i : ℕ) → lexed idle i bytes ≡ at i (meaning x (take count bytes)) ∷ onward x (lexed idle (i + count) (drop count bytes))

-- The first of the tokens ts is of the sort x, with its place p and its bytes; us are the others.
abbrev pub Took : List Placed → Sort → ℕ → List ℕ → List Placed → Type 0
Took ts x p bytes us = ts ≡ (record { token = meaning x bytes; place = p }) ∷ onward x us

-- The fault tells that the first token is of another sort than x, where no other fits what is wanted.
abbrev pub Misfits : List Placed → Sort → FormFault → Type 0
Misfits ts x f =
    (d : Dialect) (left : ℕ) (k : List Want) → ((y : Sort) (bytes : List ℕ) → y ≢ x → fits d k (meaning y bytes) ≡ None) → Told f (walk d (going left k) ts)

-- A number, where it is not too large.
abbrev pub valued : ℕ → Option ℕ
valued n = if nat_lt 65535 n then None else Some n
