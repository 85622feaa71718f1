-- Worked lines: expressions and words with the turns of their first trees, and turns that are or are not those of a tree.
use Rattle.std.specs.Prelude.{◌≡◌, ℕ, List, [], ◌∷◌, ◌≢◌}
use Rattle.expression.specs.Expressions.{Expr, letter, empty, pair, or, star}
use Rattle.expression.specs.Members.{Each}
use Rattle.expression.specs.Trees.{Tree, TreeOf}
use Rattle.expression.specs.Order.{First}
use Rattle.expression.specs.Turns.{turns}

pub data Line : Type 0 where
  -- the first tree of the expression that spells the letters has the turns
  reads : Expr → List ℕ → List ℕ → Line
  -- some tree of the expression has the turns
  a_tree : Expr → List ℕ → Line
  -- no tree of the expression has the turns
  no_tree : Expr → List ℕ → Line

-- What a line says.
abbrev pub Holds : Line → Type 0
Holds (reads e w ts) = (t : Tree) × First e w t × (turns t ≡ ts)
Holds (a_tree e ts) = (t : Tree) × TreeOf e t × (turns t ≡ ts)
Holds (no_tree e ts) = (t : Tree) → TreeOf e t → turns t ≢ ts

-- The code of a half-hour stamped within the day, and of one stamped midnight.
abbrev pub h : ℕ
h = 401

abbrev pub m : ℕ
m = 402

abbrev pub half_hour : Expr
half_hour = letter h

abbrev pub maybe_midnight : Expr
maybe_midnight = or (letter m) empty

-- A day: half-hours, with a midnight mark at its start and at its end, if any.
abbrev pub day : Expr
day = pair maybe_midnight (pair (star half_hour) maybe_midnight)

abbrev pub worked_lines : List Line
worked_lines =
    reads (pair day day) (h ∷ m ∷ h ∷ []) (1 ∷ 0 ∷ 1 ∷ 0 ∷ 1 ∷ 0 ∷ 1 ∷ 1 ∷ [])
    ∷ reads (pair (or empty half_hour) (star half_hour)) (h ∷ []) (1 ∷ 1 ∷ [])
    ∷ reads (pair (or half_hour empty) (star (or half_hour empty))) (h ∷ []) (0 ∷ 1 ∷ [])
    ∷ reads (star (star half_hour)) (h ∷ h ∷ []) (0 ∷ 0 ∷ 0 ∷ 1 ∷ 1 ∷ [])
    ∷ reads (or empty empty) [] (0 ∷ [])
    ∷ a_tree (star empty) (1 ∷ [])
    ∷ no_tree (star empty) (0 ∷ 1 ∷ [])
    ∷ []

abbrev pub WorkedLines : Type 0
WorkedLines = Each Holds worked_lines
