-- The forms as they are written, and the tokens that each is written with.
use Rattle.std.specs.Prelude.{◌≡◌, ℕ, ◌+◌, ◌≤◌, List, [], ◌∷◌, ◌++◌, map, length, codes}
use Rattle.script.specs.Tokens.{Token, word, number, opening, closing, finish}
use Rattle.script.specs.Dialects.{Dialect, mark_word, mark_size}

-- An expression as it is written in brackets; a mark by its numbers.
pub data Brackets : Type 0 where
  mark : List ℕ → Brackets
  empty : Brackets
  pair : Brackets → Brackets → Brackets
  or : Brackets → Brackets → Brackets
  star : Brackets → Brackets

-- A form as it is written.
pub data Written : Type 0 where
  lodge : Brackets → Written

-- The names.
abbrev pub is_none : List ℕ
is_none = codes "none"

abbrev pub is_pair : List ℕ
is_pair = codes "pair"

abbrev pub is_or : List ℕ
is_or = codes "or"

abbrev pub is_star : List ℕ
is_star = codes "star"

abbrev pub is_lodge : List ℕ
is_lodge = codes "lodge"

-- What stands after the opening bracket of an expression.
abbrev pub inner : Dialect → Brackets → List Token
inner d (mark ns) = word (mark_word d) ∷ (map number ns ++ (closing ∷ []))
inner d empty = word is_none ∷ (closing ∷ [])
inner d (pair e f) = word is_pair ∷ ((opening ∷ inner d e) ++ ((opening ∷ inner d f) ++ (closing ∷ [])))
inner d (or e f) = word is_or ∷ ((opening ∷ inner d e) ++ ((opening ∷ inner d f) ++ (closing ∷ [])))
inner d (star e) = word is_star ∷ ((opening ∷ inner d e) ++ (closing ∷ []))

-- The tokens of an expression.
abbrev pub bracketed : Dialect → Brackets → List Token
bracketed d e = opening ∷ inner d e

-- What stands after the opening bracket of a form, up to the line's end.
abbrev pub body : Dialect → Written → List Token
body d (lodge e) = word is_lodge ∷ (bracketed d e ++ (closing ∷ (finish ∷ [])))

-- The tokens of a line that is the form.
abbrev pub spelled : Dialect → Written → List Token
spelled d w = opening ∷ body d w

-- Each mark has as many numbers as the dialect gives it.
abbrev pub Shaped : Dialect → Brackets → Type 0
Shaped d (mark ns) = length ns ≡ mark_size d
Shaped d empty = Unit {0}
Shaped d (pair e f) = Shaped d e × Shaped d f
Shaped d (or e f) = Shaped d e × Shaped d f
Shaped d (star e) = Shaped d e

-- A form of the dialect, whatever its size, its numbers and its marks.
abbrev pub Formed : Dialect → Written → Type 0
Formed d (lodge e) = Shaped d e

-- How many nodes an expression has.
abbrev pub nodes : Brackets → ℕ
nodes (mark ns) = 1
nodes empty = 1
nodes (pair e f) = 1 + nodes e + nodes f
nodes (or e f) = 1 + nodes e + nodes f
nodes (star e) = 1 + nodes e

-- Each of the numbers is at most 65,535.
abbrev pub AllLow : List ℕ → Type 0
AllLow [] = Unit {0}
AllLow (n ∷ ns) = (n ≤ 65535) × AllLow ns

-- So is each number of an expression.
abbrev pub Low : Brackets → Type 0
Low (mark ns) = AllLow ns
Low empty = Unit {0}
Low (pair e f) = Low e × Low f
Low (or e f) = Low e × Low f
Low (star e) = Low e
