-- What turns along an expression spell, and what is written into a lent buffer.
use Rattle.std.specs.Prelude.{ℕ, ◌+◌, ◌*◌, ◌≤◌, if◌then◌else◌, List, [], ◌∷◌, ◌++◌, length, drop, filter_map, Some, None, Ok, Err, Option, Result, nat_lt, slice_set}
use Rattle.std.specs.Option.{option_map}
use Rattle.expression.specs.declared.layout.Layout.{Layout}
use Rattle.expression.specs.declared.spell_fault.SpellFault.{SpellFault}
use Rattle.expression.specs.declared.spell_fault.SpellFault.TheVariants.{NoTree, TooShort}
use Rattle.expression.specs.Expressions.{Expr}
use Rattle.expression.specs.Layouts.{nodes_of}
use Rattle.expression.specs.Nodes.{expr_at}
use Rattle.expression.specs.Search.{empty_tree}
use Rattle.expression.specs.Trees.{spells}
use Rattle.expression.specs.Turns.{turns, tree_with}

-- Items written into a buffer from n on, as far as there is room.
abbrev pub written : {A : Type 0} → List A → ℕ → List A → List A
written [] n buf = buf
written (x ∷ xs) n buf = written xs (n + 1) (slice_set buf n x)

-- The turns of the first tree of e without letters, if it has one.
abbrev pub empty_turns : Expr → Option (List ℕ)
empty_turns e = option_map turns (empty_tree e)

-- Those of the part that node i ends. Past the last node stands a letter, which has none.
abbrev pub empty_turns_at : Layout → ℕ → Option (List ℕ)
empty_turns_at l i = empty_turns (expr_at (nodes_of l) i)

-- The codes that the tree of e with just these turns spells, if there is such a tree.
abbrev pub codes : Expr → List ℕ → Option (List ℕ)
codes e ts = option_map spells (tree_with e ts)

-- A count that is at most 255 for each of n turns and 255 before them: no more nodes than that stand between two turns.
abbrev pub Few : Option ℕ → ℕ → Type 0
Few None n = Unit {0}
Few (Some k) n = k ≤ 255 * (n + 1)

-- The letters that the tree of e with just these turns spells. A code without a letter spells nothing.
abbrev pub word : {L : Type 0} → (ℕ → Option L) → Expr → List ℕ → Option (List L)
word f e ts = option_map (filter_map f) (codes e ts)

-- What spelling into a buffer with this much room answers.
abbrev pub spelt : {L : Type 0} → Option (List L) → ℕ → Result ℕ SpellFault
spelt None room = Err NoTree
spelt (Some w) room = if nat_lt room (length w) then Err (TooShort (length w)) else Ok (length w)

-- What the buffer then holds: the letters and then what stood there, or all as it was.
abbrev pub spelt_into : {L : Type 0} → Option (List L) → List L → List L
spelt_into None buf = buf
spelt_into (Some w) buf = if nat_lt (length buf) (length w) then buf else w ++ drop (length w) buf
