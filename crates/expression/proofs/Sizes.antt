-- The nodes of a layout: where their children stand, and how many nodes their parts take.
use Rattle.std.proofs.Common.{◌≡◌, ℕ, suc, ◌+◌, ◌<◌, ◌≤◌, List, length, arith}
use Rattle.expression.specs.declared.layout.Layout.{Layout}
use Rattle.expression.specs.declared.node.Node.{Node}
use Rattle.expression.specs.declared.node.Shape.{Shape}
use Rattle.expression.specs.declared.node.Shape.TheVariants.{Letter, Empty, Pair, Or, Star}
use Rattle.expression.specs.declared.raw.RawNode.{RawNode}
use Rattle.expression.specs.Expressions.{Expr}
use Rattle.expression.specs.Fitted.{Shaped}
use Rattle.expression.specs.Coming.{size}
use Rattle.expression.specs.Layouts.{nodes_of, table_of}
use Rattle.expression.specs.Nodes.{node, expr_by, expr_at}
use Rattle.expression.specs.Tables.{Part, part_letter, part_empty, part_pair, part_or, part_star}
use Rattle.expression.proofs.Meaning.{layout_stands}

-- The children of a node that has any stand before it.
abbrev pub Lower : ℕ → Shape → Type 0
Lower i (Letter c) = Unit {0}
Lower i Empty = Unit {0}
Lower i (Pair j k) = (j < i) × (k < i)
Lower i (Or j k) = (j < i) × (k < i)
Lower i (Star j) = j < i

lower_by : (ns : List Node) (i : ℕ) (n : Node) (s : Shape) → Shaped ns i n s → ((j : ℕ) → j < i → (node ns j).start ≤ j) → Lower i s
lower_by ns i n (Letter c) sh low = tt
lower_by ns i n Empty sh low = tt
lower_by ns i n (Pair j k) sh low = let l : k < i = omega (arith, sh.second) in let d = low k l in (omega (arith, sh.first), l)
lower_by ns i n (Or j k) sh low = let l : k < i = omega (arith, sh.second) in let d = low k l in (omega (arith, sh.first), l)
lower_by ns i n (Star j) sh low = omega (arith, sh.child)

-- A part has as many nodes as its expression takes.
part_size : (ts : List RawNode) {a b : ℕ} {e : Expr} → Part ts a b e → a + size e ≡ b
part_size ts (part_letter q) = omega arith
part_size ts (part_empty q) = omega arith
part_size ts (part_pair p r q) = let x = part_size ts p in let y = part_size ts r in omega arith
part_size ts (part_or p r q) = let x = part_size ts p in let y = part_size ts r in omega arith
part_size ts (part_star p q) = let x = part_size ts p in omega arith

module _ (l : Layout) (i : ℕ) (h : i < length (nodes_of l)) where
  node_lower : Lower i (node (nodes_of l) i).shape
  node_lower = lower_by (nodes_of l) i (node (nodes_of l) i) (node (nodes_of l) i).shape ((layout_stands l).means i h).fits.shaped (λ j m. ((layout_stands l).means j (omega arith)).fits.low)

  pub node_size : size (expr_at (nodes_of l) i) ≤ suc i
  node_size = omega (arith, part_size (table_of l) ((layout_stands l).means i h).part)

  -- The node that was read there.
  module _ (here : Node) (read : here ≡ node (nodes_of l) i) {s : Shape} (e : here.shape ≡ s) where
    pub made_as : expr_at (nodes_of l) i ≡ expr_by (expr_at (nodes_of l)) s
    made_as = rw (← e, read) ((layout_stands l).means i h).made

    pub lower_as : Lower i s
    lower_as = rw (← e, read) node_lower
