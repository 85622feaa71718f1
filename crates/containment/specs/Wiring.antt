-- How the nodes of a layout hang together, each told by its children. This serves the proofs only.
use Rattle.std.specs.Prelude.{◌≡◌, ℕ, suc, ◌+◌, ◌<◌, ◌≤◌, List, length}
use Rattle.expression.specs.declared.node.Node.{Node}
use Rattle.expression.specs.declared.node.Shape.{Shape}
use Rattle.expression.specs.declared.node.Shape.TheVariants.{Letter, Empty, Pair, Or, Star}
use Rattle.expression.specs.Expressions.{Expr, letter, empty, pair, or, star, admits_empty}
use Rattle.expression.specs.Fitted.{letters_to}
use Rattle.expression.specs.Nodes.{node, last, expr_at}
use Rattle.expression.specs.Places.{letter_count}

-- The number of letters before the part of node i.
abbrev pub before : List Node → ℕ → ℕ
before ns i = letters_to ns (node ns i).start

-- The expression of all the nodes.
abbrev pub whole : List Node → Expr
whole ns = expr_at ns (last ns)

-- The letter with the code c, at the next place.
pub record Leaf (ns : List Node) (i c : ℕ) : Type 0 where
  pub expr : expr_at ns i ≡ letter c
  pub place : (node ns i).letters ≡ suc (before ns i)
  pub few : (node ns i).letters ≤ 128

-- A node over the children j and k, the second of which stands after the letters of the first.
pub record Two (join : Expr → Expr → Expr) (ns : List Node) (i j k : ℕ) : Type 0 where
  pub expr : expr_at ns i ≡ join (expr_at ns j) (expr_at ns k)
  pub first : j < i
  pub second : k < i
  pub same : before ns j ≡ before ns i
  pub next : before ns k ≡ before ns i + letter_count (expr_at ns j)

-- A node over the child j.
pub record One (ns : List Node) (i j : ℕ) : Type 0 where
  pub expr : expr_at ns i ≡ star (expr_at ns j)
  pub child : j < i
  pub same : before ns j ≡ before ns i

abbrev pub Local : List Node → ℕ → Shape → Type 0
Local ns i (Letter c) = Leaf ns i c
Local ns i Empty = expr_at ns i ≡ empty
Local ns i (Pair j k) = Two pair ns i j k
Local ns i (Or j k) = Two or ns i j k
Local ns i (Star j) = One ns i j

-- What the code needs to know of the nodes of a layout.
pub record Wired (ns : List Node) : Type 0 where
  pub some : 0 < length ns
  pub short : length ns ≤ 255
  pub local : (i : ℕ) → i < length ns → Local ns i (node ns i).shape
  pub admits : (i : ℕ) → i < length ns → (node ns i).admits ≡ admits_empty (expr_at ns i)
  pub root : before ns (last ns) ≡ 0
  pub places : (node ns (last ns)).letters ≡ letter_count (whole ns)
  pub few : letter_count (whole ns) ≤ 128
