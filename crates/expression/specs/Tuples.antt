-- Trees of several expressions, one after another: a tree for each item of a list of expressions.
use Rattle.std.specs.Prelude.{◌≡◌, ℕ, List, [], ◌∷◌, ◌++◌}
use Rattle.expression.specs.Expressions.{Expr}
use Rattle.expression.specs.Trees.{Tree, TreeOf, spells}
use Rattle.expression.specs.Turns.{turns}
use Rattle.expression.specs.Order.{Before}

-- Trees of a list of expressions, item by item.
pub data TreesOf : List Expr → List Tree → Type 0 where
  is_nil : TreesOf [] []
  is_cons : {e : Expr} {k : List Expr} {t : Tree} {u : List Tree} → TreeOf e t → TreesOf k u → TreesOf (e ∷ k) (t ∷ u)

-- The letters of all of them.
abbrev pub spell_all : List Tree → List ℕ
spell_all [] = []
spell_all (t ∷ u) = spells t ++ spell_all u

-- The turns of all of them.
abbrev pub turn_all : List Tree → List ℕ
turn_all [] = []
turn_all (t ∷ u) = turns t ++ turn_all u

-- Trees of the items k that together spell w.
pub record Parses (k : List Expr) (w : List ℕ) (u : List Tree) : Type 0 where
  pub are : TreesOf k u
  pub spelt : spell_all u ≡ w

-- The order of tuples: the first trees that differ decide.
pub data Lex : List Expr → List Tree → List Tree → Type 0 where
  here : {e : Expr} {k : List Expr} {t t' : Tree} {u u' : List Tree} → Before e t t' → Lex (e ∷ k) (t ∷ u) (t' ∷ u')
  there : {e : Expr} {k : List Expr} {t t' : Tree} {u u' : List Tree} → t ≡ t' → Lex k u u' → Lex (e ∷ k) (t ∷ u) (t' ∷ u')

-- A tuple with its first tree changed.
abbrev pub on_first : (Tree → Tree) → List Tree → List Tree
on_first g [] = []
on_first g (t ∷ u) = g t ∷ u

-- A tuple with its first two trees made one.
abbrev pub merge : (Tree → Tree → Tree) → List Tree → List Tree
merge c [] = []
merge c (t ∷ []) = t ∷ []
merge c (t ∷ (t' ∷ u)) = c t t' ∷ u
