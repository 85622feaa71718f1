-- The tables of the layers: what they hold, and when one is refused.
use Rattle.std.specs.Prelude.{ℕ, Bool, if◌then◌else◌, not, ◌||◌, List, length, take, is_some, Some, None, Ok, Err, Option, Result, ◌==◌, nat_lt, find, position}
use Rattle.std.specs.List.{enumerate_from, list_any}
use Rattle.std.specs.Option.{option_map}
use Rattle.feed.specs.declared.fault.Fault.{Fault}
use Rattle.feed.specs.declared.tables.Pair.{Pair}
use Rattle.feed.specs.declared.tables.RenameTable.{RenameTable}
use Rattle.feed.specs.declared.tables.SkipList.{SkipList}
use Rattle.feed.specs.declared.tables.LayerFault.{LayerFault}
use Rattle.feed.specs.declared.tables.LayerFault.TheVariants.{TooMany, Entry}
use Rattle.feed.specs.Entries.{entries_of}

-- The number of each refusal and its two values.
abbrev pub layer_fault : LayerFault → Fault
layer_fault TooMany = record { number = 43; first = 32; second = 0 }
layer_fault (Entry n) = record { number = 43; first = n; second = 0 }

-- The pairs that a rename table holds.
abbrev pub pairs_of : RenameTable → List Pair
pairs_of t = entries_of t.pairs

-- The codes that a skip list holds.
abbrev pub codes_of : SkipList → List ℕ
codes_of t = entries_of t.codes

-- The target of the first pair with the source c.
abbrev pub target_of : List Pair → ℕ → Option ℕ
target_of pairs c = option_map (λ p. p.target) (find (λ p. p.source == c) pairs)

-- The code c stands in the list.
abbrev pub listed : List ℕ → ℕ → Bool
listed codes c = list_any (λ x. x == c) codes

-- A pair cannot stand after these: its target is no letter, or its source is there before.
abbrev pub misfit : {L : Type 0} → (ℕ → Option L) → List Pair → Pair → Bool
misfit letter before p = not (is_some (letter p.target)) || is_some (target_of before p.source)

-- The number, from 0, of the first pair that cannot stand after those before it.
abbrev pub first_misfit : {L : Type 0} → (ℕ → Option L) → List Pair → Option ℕ
first_misfit letter pairs = position (λ p. misfit letter (take p.0 pairs) p.1) (enumerate_from 0 pairs)

-- The pairs, unless one cannot stand.
abbrev pub unless_misfit : Option ℕ → List Pair → Result (List Pair) LayerFault
unless_misfit None ps = Ok ps
unless_misfit (Some n) ps = Err (Entry n)

-- What a rename table of these pairs holds, or why it is refused.
abbrev pub rename_checked : {L : Type 0} → (ℕ → Option L) → List Pair → Result (List Pair) LayerFault
rename_checked letter ps = if nat_lt 32 (length ps) then Err TooMany else unless_misfit (first_misfit letter ps) ps

-- What a list of these entries holds, or that they are more than 32.
abbrev pub few_checked : {T : Type 0} → List T → Result (List T) LayerFault
few_checked xs = if nat_lt 32 (length xs) then Err TooMany else Ok xs

-- What a skip list of these codes holds, or why it is refused.
abbrev pub skip_checked : List ℕ → Result (List ℕ) LayerFault
skip_checked codes = few_checked codes

-- A result, with what the table holds in the place of the table.
abbrev pub with_table : {T H : Type 0} → (T → H) → Result T LayerFault → Result H LayerFault
with_table holds (Ok t) = Ok (holds t)
with_table holds (Err f) = Err f
