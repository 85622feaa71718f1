-- The part of the expression that each node of a layout holds. This serves the proofs only.
use Rattle.std.specs.Prelude.{◌≡◌, ℕ, ◌+◌, ◌<◌}
use Rattle.expression.specs.Expressions.{Expr, letter, empty, pair, or, star, admits_empty}
use Rattle.expression.specs.Places.{letter_count, Item, item}
use Rattle.expression.specs.Nodes.{node, last, expr_at}
use Rattle.expression.specs.Fitted.{letters_to}
use Rattle.expression.specs.Layouts.{nodes_of}
use Rattle.expression.specs.declared.layout.Layout.{Layout}
use Rattle.expression.specs.declared.node.Node.{Node}
use Rattle.expression.specs.declared.node.Shape.{Shape}
use Rattle.expression.specs.declared.node.Shape.TheVariants.{Letter, Empty, Pair, Or, Star}

-- The part that the node with number i holds.
unfoldable pub held : Layout → ℕ → Item
held l i = item (letters_to (nodes_of l) (node (nodes_of l) i).start) (expr_at (nodes_of l) i)

-- The expression of the last node, which is that of the layout.
abbrev pub whole : Layout → Expr
whole l = (held l (last (nodes_of l))).expr

-- Node i holds the parts of two others, j and k, one after the other, joined by c.
pub record Two (l : Layout) (i j k : ℕ) (c : Expr → Expr → Expr) : Type 0 where
  pub first_low : j < i
  pub second_low : k < i
  pub is : (held l i).expr ≡ c (held l j).expr (held l k).expr
  pub first_before : (held l j).before ≡ (held l i).before
  pub second_before : (held l k).before ≡ (held l i).before + letter_count (held l j).expr

-- Node i holds a list of the part of one other, j.
pub record One (l : Layout) (i j : ℕ) : Type 0 where
  pub low : j < i
  pub is : (held l i).expr ≡ star (held l j).expr
  pub before : (held l j).before ≡ (held l i).before

-- How the part of node i is made of its children's, by its shape.
abbrev pub Made : Layout → ℕ → Shape → Type 0
Made l i (Letter c) = (held l i).expr ≡ letter c
Made l i Empty = (held l i).expr ≡ empty
Made l i (Pair j k) = Two l i j k pair
Made l i (Or j k) = Two l i j k or
Made l i (Star j) = One l i j

-- What node i, which is n, tells of its part.
pub record Tells (l : Layout) (i : ℕ) (n : Node) : Type 0 where
  pub is : n ≡ node (nodes_of l) i
  pub made : Made l i n.shape
  pub admits : n.admits ≡ admits_empty (held l i).expr
  pub letters : n.letters ≡ (held l i).before + letter_count (held l i).expr
