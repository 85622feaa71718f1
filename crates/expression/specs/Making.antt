-- How a checked node is made of the nodes before it. This serves the proofs only: Fitted says what its fields tell.
use Rattle.std.specs.Prelude.{◌≡◌, ℕ, ◌+◌, ◌-◌, ◌<◌, ◌≤◌, if◌then◌else◌, List, length, take, Some, None, Option, ◌==◌, nat_lt}
use Rattle.std.specs.Option.{option_map}
use Rattle.expression.specs.declared.node.Node.{Node}
use Rattle.expression.specs.declared.node.Shape.{Shape}
use Rattle.expression.specs.declared.node.Shape.TheVariants as shape
use Rattle.expression.specs.declared.raw.RawNode.{RawNode}
use Rattle.expression.specs.declared.raw.RawNode.TheVariants.{Letter, Empty, Pair, Or, Star, Unknown}
use Rattle.expression.specs.Nodes.{node, last, raw_of, admits_at, admits_by}

-- The number of letter nodes.
abbrev pub letters_of : List Node → ℕ
letters_of ns = if length ns == 0 then 0 else (node ns (last ns)).letters

-- A node without children that stands after the nodes ns, with k letter nodes up to it.
abbrev pub leaf : List Node → Shape → ℕ → Node
leaf ns s k = record { shape = s; start = length ns; letters = k; admits = admits_by (admits_at ns) s }

-- A node after the nodes ns whose first child is the node j: its part begins where j's does.
abbrev pub over : List Node → Shape → ℕ → Node
over ns s j = record { shape = s; start = (node ns j).start; letters = letters_of ns; admits = admits_by (admits_at ns) s }

-- The last node, if there is one.
abbrev pub last_one : List Node → Option ℕ
last_one ns = if length ns == 0 then None else Some (last ns)

-- The node before the last one's part and the last one, if there are such.
abbrev pub last_two : List Node → Option (ℕ × ℕ)
last_two ns =
    if length ns == 0 then None else if (node ns (last ns)).start == 0 then None else Some ((node ns (last ns)).start - 1, last ns)

-- The checked form of a node that stands after the nodes ns, or none where it breaks.
abbrev pub next_node : List Node → RawNode → Option Node
next_node ns (Letter c) = if nat_lt (letters_of ns) 128 then Some (leaf ns (shape.Letter c) (letters_of ns + 1)) else None
next_node ns Empty = Some (leaf ns shape.Empty (letters_of ns))
next_node ns Pair = option_map (λ p. over ns (shape.Pair p.0 p.1) p.0) (last_two ns)
next_node ns Or = option_map (λ p. over ns (shape.Or p.0 p.1) p.0) (last_two ns)
next_node ns Star = option_map (λ j. over ns (shape.Star j) j) (last_one ns)
next_node ns (Unknown k) = None

-- Each node is made of those before it.
abbrev pub Laid : List Node → Type 0
Laid ns = (i : ℕ) → i < length ns → next_node (take i ns) (raw_of (node ns i)) ≡ Some (node ns i)

-- There are 1 to 255 nodes, and the last one's part begins with the first.
abbrev pub Whole : List Node → Type 0
Whole ns = (0 < length ns) × (length ns ≤ 255) × ((node ns (last ns)).start ≡ 0)
