-- What the check of a table answers.
use Rattle.std.specs.Prelude.{◌≡◌, ℕ, ◌<◌, ◌≤◌, Bool, true, ◌⊎◌, List, length, is_some, Ok, Err, Option, Result}
use Rattle.expression.specs.declared.fault.TableFault.{TableFault}
use Rattle.expression.specs.declared.fault.TableFault.TheVariants.{Empty, TooLong, Breaks, Unfinished, NoMemory}
use Rattle.expression.specs.declared.layout.Layout.{Layout}
use Rattle.expression.specs.declared.raw.RawNode.{RawNode}
use Rattle.expression.specs.declared.raw.RawNode.TheVariants.{Letter}
use Rattle.expression.specs.Expressions.{Expr}
use Rattle.expression.specs.Layouts.{table_of, expression_of}
use Rattle.expression.specs.Tables.{raw, letters_below, Part, Denotes, BreaksAt}

-- Does a code give a letter?
abbrev pub gives : {L : Type 0} → (ℕ → Option L) → ℕ → Bool
gives lettered c = is_some (lettered c)

-- A good table: 1 to 255 nodes, at most 128 of them letters, whose codes give letters; and its nodes are one part, which denotes e.
pub record Good (give : ℕ → Bool) (ns : List RawNode) (e : Expr) : Type 0 where
  pub some : 0 < length ns
  pub short : length ns ≤ 255
  pub few : letters_below ns (length ns) ≤ 128
  pub lettered : (i c : ℕ) → raw ns i ≡ Letter c → give c ≡ true
  pub denotes : Denotes ns e

-- A table with 1 to 255 nodes.
abbrev pub Sized : List RawNode → Type 0
Sized ns = (0 < length ns) × (length ns ≤ 255)

-- The fault of a table, the first in this order: no nodes, too many, the lowest that breaks, the last node's part is not the whole table.
-- Want of memory is no fault of a table.
abbrev pub Faults : (ℕ → Bool) → List RawNode → TableFault → Type 0
Faults give ns Empty = length ns ≡ 0
Faults give ns TooLong = 255 < length ns
Faults give ns (Breaks i) = Sized ns × BreaksAt give ns i × ((j : ℕ) → j < i → BreaksAt give ns j → ⊥)
Faults give ns (Unfinished n) = Sized ns × (n ≡ length ns) × ((j : ℕ) → BreaksAt give ns j → ⊥) × ((e : Expr) → Denotes ns e → ⊥)
Faults give ns NoMemory = ⊥

-- What the check of a table answers: the layout of a good table, the fault of any other, or want of memory.
abbrev pub Answers : (ℕ → Bool) → List RawNode → Result Layout TableFault → Type 0
Answers give ns (Ok l) = (table_of l ≡ ns) × Good give ns (expression_of l)
Answers give ns (Err f) = (f ≡ NoMemory) ⊎ Faults give ns f

-- A part's end determines where it begins and what it denotes.
abbrev pub OneExpression : Type 0
OneExpression = (ns : List RawNode) (a a' b : ℕ) (e e' : Expr) → Part ns a b e → Part ns a' b e' → (a ≡ a') × (e ≡ e')

-- Each table is good or has a fault, never both, and neither two expressions nor two faults.
pub record Judged (give : ℕ → Bool) (ns : List RawNode) : Type 0 where
  pub verdict : ((e : Expr) × Good give ns e) ⊎ ((f : TableFault) × Faults give ns f)
  pub apart : (e : Expr) → Good give ns e → (f : TableFault) → Faults give ns f → ⊥
  pub one_good : (e e' : Expr) → Good give ns e → Good give ns e' → e ≡ e'
  pub one_fault : (f f' : TableFault) → Faults give ns f → Faults give ns f' → f ≡ f'

-- So is every table judged, whatever the kind of its letters.
abbrev pub OneVerdict : Type 0
OneVerdict = (give : ℕ → Bool) (ns : List RawNode) → Judged give ns
