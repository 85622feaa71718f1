-- Regular expressions over the codes of letters.
use Rattle.std.specs.Prelude.{ℕ, Bool, true, false, ◌&&◌, ◌||◌}

pub data Expr : Type 0 where
  -- one letter, by its code
  letter : ℕ → Expr
  -- the empty word
  empty : Expr
  pair : Expr → Expr → Expr
  or : Expr → Expr → Expr
  star : Expr → Expr

-- Is the empty word a word of the expression?
abbrev pub admits_empty : Expr → Bool
admits_empty (letter c) = false
admits_empty empty = true
admits_empty (pair x y) = admits_empty x && admits_empty y
admits_empty (or x y) = admits_empty x || admits_empty y
admits_empty (star x) = true
