-- Parse trees, the letters that they spell, and which of them are trees of an expression.
use Rattle.std.specs.Prelude.{◌≡◌, ℕ, Bool, true, false, List, [], ◌∷◌, ◌++◌}
use Rattle.expression.specs.Expressions.{Expr, letter, empty, pair, or, star}

-- A parse tree, written without its expression.
pub data Tree : Type 0 where
  -- a letter, by its code
  leaf : ℕ → Tree
  -- the empty word
  unit : Tree
  -- a tree of each part of a pair
  both : Tree → Tree → Tree
  -- a tree of the left or of the right side of an or
  left : Tree → Tree
  right : Tree → Tree
  -- the end of a star's list, or a member and the rest of the list
  end : Tree
  more : Tree → Tree → Tree

-- The letters of a tree, from left to right.
abbrev pub spells : Tree → List ℕ
spells (leaf a) = a ∷ []
spells unit = []
spells (both t u) = spells t ++ spells u
spells (left t) = spells t
spells (right t) = spells t
spells end = []
spells (more t u) = spells t ++ spells u

-- Has a list members?
abbrev pub nonempty : List ℕ → Bool
nonempty [] = false
nonempty (a ∷ w) = true

-- Has a tree letters?
abbrev pub has_letters : Tree → Bool
has_letters t = nonempty (spells t)

-- The trees of an expression. Each member of a list spells at least one letter.
pub data TreeOf : Expr → Tree → Type 0 where
  is_leaf : {a : ℕ} → TreeOf (letter a) (leaf a)
  is_unit : TreeOf empty unit
  is_both : {e f : Expr} {t u : Tree} → TreeOf e t → TreeOf f u → TreeOf (pair e f) (both t u)
  is_left : {e f : Expr} {t : Tree} → TreeOf e t → TreeOf (or e f) (left t)
  is_right : {e f : Expr} {t : Tree} → TreeOf f t → TreeOf (or e f) (right t)
  is_end : {e : Expr} → TreeOf (star e) end
  is_more : {e : Expr} {t u : Tree} → TreeOf e t → has_letters t ≡ true → TreeOf (star e) u → TreeOf (star e) (more t u)
