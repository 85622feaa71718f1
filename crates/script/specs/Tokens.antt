-- What a line of a script is cut into.
use Rattle.std.specs.Prelude.{ℕ, ◌+◌, ◌-◌, ◌*◌, Bool, false, if◌then◌else◌, ◌&&◌, ◌||◌, List, [], ◌∷◌, ◌++◌, ◌==◌, nat_le}
use Rattle.std.specs.Str.{bytes_eq}
use Rattle.script.specs.declared.token.Run.{Run}
use Rattle.script.specs.declared.token.Run.TheVariants.{Letters, Digits}

-- A bracket or a dash by its byte, a name by its bytes, a number by its value. The line's end is the sign 10.
pub data Token : Type 0 where
  sign : ℕ → Token
  word : List ℕ → Token
  number : ℕ → Token

-- The brackets, and the line's end.
abbrev pub opening : Token
opening = sign 40

abbrev pub closing : Token
closing = sign 41

abbrev pub finish : Token
finish = sign 10

-- Whether two tokens are one.
abbrev pub same : Token → Token → Bool
same (sign a) (sign b) = a == b
same (sign a) (word w) = false
same (sign a) (number n) = false
same (word v) (sign b) = false
same (word v) (word w) = bytes_eq v w
same (word v) (number n) = false
same (number m) (sign b) = false
same (number m) (word w) = false
same (number m) (number n) = m == n

-- A token and the place of its first byte, from 1.
pub record Placed : Type 0 where
  pub token : Token
  pub place : ℕ

-- The token whose first byte has the index i.
abbrev pub at : ℕ → Token → Placed
at i t = record { token = t; place = i + 1 }

-- The token without its place.
abbrev pub bare : Placed → Token
bare t = t.token

-- a to z
abbrev pub letter : ℕ → Bool
letter b = nat_le 97 b && nat_le b 122

-- 0 to 9
abbrev pub digit : ℕ → Bool
digit b = nat_le 48 b && nat_le b 57

-- A bracket or a dash.
abbrev pub mark : ℕ → Bool
mark b = b == 40 || (b == 41 || b == 45)

-- A byte of a token, or a space.
abbrev pub known : ℕ → Bool
known b = letter b || (digit b || (mark b || b == 32))

-- A byte that goes on in a run.
abbrev pub belongs : Run → ℕ → Bool
belongs Letters b = letter b
belongs Digits b = digit b

-- The number that digits write, after those that wrote n.
abbrev pub decimal_on : ℕ → List ℕ → ℕ
decimal_on n [] = n
decimal_on n (b ∷ bs) = decimal_on (n * 10 + (b - 48)) bs

-- The number that digits write, however many.
abbrev pub decimal : List ℕ → ℕ
decimal bs = decimal_on 0 bs

-- The token that a run of bytes makes.
abbrev pub run_token : Run → List ℕ → Token
run_token Letters w = word w
run_token Digits w = number (decimal w)

-- The run that the bytes so far have begun: its bytes, and the index of the first.
pub data Begun : Type 0 where
  idle : Begun
  begun : Run → List ℕ → ℕ → Begun

-- The byte b at i where no run goes on; rest is what follows.
abbrev pub fresh : ℕ → ℕ → (Begun → List Placed) → List Placed
fresh i b rest =
    if letter b then rest (begun Letters (b ∷ []) i)
    else if digit b then rest (begun Digits (b ∷ []) i)
    else if mark b then at i (sign b) ∷ rest idle
    else rest idle

-- The tokens of bytes of which the first has the index i, after what was begun.
abbrev pub lexed : Begun → ℕ → List ℕ → List Placed
lexed idle i [] = at i finish ∷ []
lexed (begun r w s) i [] = at s (run_token r w) ∷ (at i finish ∷ [])
lexed idle i (b ∷ bs) = fresh i b (λ q. lexed q (i + 1) bs)
lexed (begun r w s) i (b ∷ bs) =
    if belongs r b then lexed (begun r (w ++ b ∷ []) s) (i + 1) bs
    else at s (run_token r w) ∷ fresh i b (λ q. lexed q (i + 1) bs)

-- The tokens of a line.
abbrev pub tokens : List ℕ → List Placed
tokens line = lexed idle 0 line
