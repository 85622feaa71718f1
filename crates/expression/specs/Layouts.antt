-- What a layout holds, and what it means.
use Rattle.std.specs.Prelude.{◌≡◌, ℕ, suc, ◌<◌, List, map, length, vec_items}
use Rattle.expression.specs.declared.layout.Layout.{Layout}
use Rattle.expression.specs.declared.node.Node.{Node}
use Rattle.expression.specs.declared.raw.RawNode.{RawNode}
use Rattle.expression.specs.Expressions.{Expr, admits_empty}
use Rattle.expression.specs.Fitted.{Fitted}
use Rattle.expression.specs.Nodes.{node, last, raw_of, expr_by, expr_at}
use Rattle.expression.specs.Tables.{Part, Denotes, letters_below}

-- The nodes of a layout.
abbrev pub nodes_of : Layout → List Node
nodes_of l = vec_items l.nodes

-- The table that a layout was made of.
abbrev pub table_of : Layout → List RawNode
table_of l = map raw_of (nodes_of l)

-- The number of letter nodes of a layout, which is that of its places.
abbrev pub places_of : Layout → ℕ
places_of l = (node (nodes_of l) (last (nodes_of l))).letters

-- The expression of a layout is that of its last node.
abbrev pub expression_of : Layout → Expr
expression_of l = expr_at (nodes_of l) (last (nodes_of l))

-- What the fields of the node with number i tell: it ends a part of the table, which denotes its expression.
pub record Means (l : Layout) (i : ℕ) : Type 0 where
  pub part : Part (table_of l) (node (nodes_of l) i).start (suc i) (expr_at (nodes_of l) i)
  pub made : expr_at (nodes_of l) i ≡ expr_by (expr_at (nodes_of l)) (node (nodes_of l) i).shape
  pub admits : (node (nodes_of l) i).admits ≡ admits_empty (expr_at (nodes_of l) i)
  pub letters : (node (nodes_of l) i).letters ≡ letters_below (table_of l) (suc i)
  pub fits : Fitted (nodes_of l) i (node (nodes_of l) i)

-- The table of a layout denotes the layout's expression, and each node tells of its part.
pub record Stands (l : Layout) : Type 0 where
  pub denotes : Denotes (table_of l) (expression_of l)
  pub means : (i : ℕ) → i < length (nodes_of l) → Means l i
  pub places : places_of l ≡ letters_below (table_of l) (length (table_of l))

-- So stands every layout.
abbrev pub LayoutsStand : Type 0
LayoutsStand = (l : Layout) → Stands l

-- The table of a layout determines its nodes.
abbrev pub OneLayout : Type 0
OneLayout = (l l' : Layout) → table_of l ≡ table_of l' → nodes_of l ≡ nodes_of l'
