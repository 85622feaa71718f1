-- Checked nodes: the raw nodes that they were made of, and what they denote.
use Rattle.std.specs.Prelude.{ℕ, zero, suc, ◌-◌, Bool, true, false, ◌&&◌, ◌||◌, List, length, slice_index_or}
use Rattle.expression.specs.declared.node.Node.{Node}
use Rattle.expression.specs.declared.node.Shape.{Shape}
use Rattle.expression.specs.declared.node.Shape.TheVariants as shape
use Rattle.expression.specs.declared.raw.RawNode.{RawNode}
use Rattle.expression.specs.declared.raw.RawNode.TheVariants.{Letter, Empty, Pair, Or, Star}
use Rattle.expression.specs.Expressions.{Expr, letter, empty, pair, or, star}

-- What stands past the end.
abbrev pub no_node : Node
no_node = record { shape = shape.Letter 0; start = 0; letters = 0; admits = false }

-- The node with number i.
abbrev pub node : List Node → ℕ → Node
node ns i = slice_index_or ns i no_node

-- Is the empty word a word of the part of the node with number i?
abbrev pub admits_at : List Node → ℕ → Bool
admits_at ns i = (node ns i).admits

-- The number of the last node.
abbrev pub last : List Node → ℕ
last ns = length ns - 1

-- The raw form of a node, by its shape.
abbrev pub raw_shape : Shape → RawNode
raw_shape (shape.Letter c) = Letter c
raw_shape shape.Empty = Empty
raw_shape (shape.Pair i j) = Pair
raw_shape (shape.Or i j) = Or
raw_shape (shape.Star i) = Star

-- The raw node that a checked one was made of.
abbrev pub raw_of : Node → RawNode
raw_of n = raw_shape n.shape

-- Is the empty word a word of a node of this shape, from the answers of the nodes before it?
abbrev pub admits_by : (ℕ → Bool) → Shape → Bool
admits_by f (shape.Letter c) = false
admits_by f shape.Empty = true
admits_by f (shape.Pair i j) = f i && f j
admits_by f (shape.Or i j) = f i || f j
admits_by f (shape.Star i) = true

-- The expression of a node of this shape, from those of the nodes before it.
abbrev pub expr_by : (ℕ → Expr) → Shape → Expr
expr_by f (shape.Letter c) = letter c
expr_by f shape.Empty = empty
expr_by f (shape.Pair i j) = pair (f i) (f j)
expr_by f (shape.Or i j) = or (f i) (f j)
expr_by f (shape.Star i) = star (f i)

-- The expression of node i, by at most k levels of nodes.
abbrev pub expr_within : ℕ → List Node → ℕ → Expr
expr_within zero ns i = empty
expr_within (suc k) ns i = expr_by (λ j. expr_within k ns j) (node ns i).shape

-- The expression of node i: children have lower numbers.
abbrev pub expr_at : List Node → ℕ → Expr
expr_at ns i = expr_within (suc i) ns i
