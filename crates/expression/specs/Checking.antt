-- The check of a table, node by node. This serves the proofs only: Verdicts says what a check answers.
use Rattle.std.specs.Prelude.{◌≡◌, ℕ, zero, suc, Bool, false, not, List, [], ◌∷◌, ◌++◌, Some, None, Ok, Err, vec_items, Option, Result, Vec}
use Rattle.std.specs.declared.alloc.Global.{Global}
use Rattle.expression.specs.declared.fault.TableFault.{TableFault}
use Rattle.expression.specs.declared.fault.TableFault.TheVariants as fault
use Rattle.expression.specs.declared.node.Node.{Node}
use Rattle.expression.specs.declared.raw.RawNode.{RawNode}
use Rattle.expression.specs.declared.raw.RawNode.TheVariants.{Letter, Empty, Pair, Or, Star, Unknown}
use Rattle.expression.specs.Making.{next_node}
use Rattle.expression.specs.Tables.{raw}

-- Nodes with node i after them, or its number if it has no checked form.
abbrev pub put : List Node → ℕ → Option Node → Result (List Node) ℕ
put ns i (Some n) = Ok (ns ++ n ∷ [])
put ns i None = Err i

-- Nodes with the raw node r after them, as node i, or the number of the first that breaks.
abbrev pub lay_on : ℕ → RawNode → Result (List Node) ℕ → Result (List Node) ℕ
lay_on i r (Ok ns) = put ns i (next_node ns r)
lay_on i r (Err j) = Err j

-- The check of the nodes below a number: their checked forms, or the number of the first that breaks.
abbrev pub lay : List RawNode → ℕ → Result (List Node) ℕ
lay ns zero = Ok []
lay ns (suc i) = lay_on i (raw ns i) (lay ns i)

-- What a refusal tells of that.
abbrev pub Told : Result (List Node) ℕ → TableFault → Type 0
Told o fault.Empty = ⊥
Told o fault.TooLong = ⊥
Told o (fault.Breaks i) = o ≡ Err i
Told o (fault.Unfinished n) = ⊥
Told o fault.NoMemory = Unit {0}

-- What the check of the nodes below n answers.
abbrev pub Checked : List RawNode → ℕ → Result (Vec Node Global) TableFault → Type 0
Checked ns n (Ok v) = lay ns n ≡ Ok (vec_items v)
Checked ns n (Err f) = Told (lay ns n) f

-- Does a node have a code that gives no letter?
abbrev pub mute : (ℕ → Bool) → RawNode → Bool
mute give (Letter c) = not (give c)
mute give Empty = false
mute give Pair = false
mute give Or = false
mute give Star = false
mute give (Unknown k) = false
