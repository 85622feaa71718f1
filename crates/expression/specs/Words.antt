-- Words: what the trees of an expression spell.
use Rattle.std.specs.Prelude.{◌≡◌, ℕ, List}
use Rattle.expression.specs.Expressions.{Expr}
use Rattle.expression.specs.Trees.{Tree, TreeOf, spells}

-- A tree of e that spells w.
pub record Parse (e : Expr) (w : List ℕ) (t : Tree) : Type 0 where
  pub is : TreeOf e t
  pub spelt : spells t ≡ w

-- The letters w are a word of e: some tree of e spells them.
abbrev pub Word : Expr → List ℕ → Type 0
Word e w = (t : Tree) × Parse e w t
