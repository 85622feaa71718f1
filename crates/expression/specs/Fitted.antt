-- What the fields of a checked node say, in terms of the nodes before it.
use Rattle.std.specs.Prelude.{◌≡◌, ℕ, zero, suc, ◌+◌, ◌≤◌, List}
use Rattle.expression.specs.Nodes.{node, raw_of, admits_at, admits_by}
use Rattle.expression.specs.Tables.{letter_count}
use Rattle.expression.specs.declared.node.Node.{Node}
use Rattle.expression.specs.declared.node.Shape.{Shape}
use Rattle.expression.specs.declared.node.Shape.TheVariants.{Letter, Empty, Pair, Or, Star}

-- The second child k stands just before the node, the first child j just before the second's part, and the node's part begins with the first's.
pub record Two (ns : List Node) (i : ℕ) (n : Node) (j k : ℕ) : Type 0 where
  pub second : suc k ≡ i
  pub first : suc j ≡ (node ns k).start
  pub start : n.start ≡ (node ns j).start

-- The only child j stands just before the node, and the node's part begins with the child's.
pub record One (ns : List Node) (i : ℕ) (n : Node) (j : ℕ) : Type 0 where
  pub child : suc j ≡ i
  pub start : n.start ≡ (node ns j).start

-- Where the node begins and has its children, by its shape.
abbrev pub Shaped : List Node → ℕ → Node → Shape → Type 0
Shaped ns i n (Letter c) = n.start ≡ i
Shaped ns i n Empty = n.start ≡ i
Shaped ns i n (Pair j k) = Two ns i n j k
Shaped ns i n (Or j k) = Two ns i n j k
Shaped ns i n (Star j) = One ns i n j

-- The number of letter nodes below number i.
abbrev pub letters_to : List Node → ℕ → ℕ
letters_to ns zero = 0
letters_to ns (suc i) = (node ns i).letters

-- The fields of the node n, which has number i, from those of the nodes ns before it.
pub record Fitted (ns : List Node) (i : ℕ) (n : Node) : Type 0 where
  pub shaped : Shaped ns i n n.shape
  pub low : n.start ≤ i
  pub admits : n.admits ≡ admits_by (admits_at ns) n.shape
  pub letters : n.letters ≡ letters_to ns i + letter_count (raw_of n)
  pub few : n.letters ≤ 128
