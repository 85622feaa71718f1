-- Tables of nodes: their parts, the expressions that they denote, and where they break.
use Rattle.std.specs.Prelude.{◌≡◌, ℕ, zero, suc, ◌+◌, ◌<◌, ◌≤◌, Bool, false, ◌⊎◌, List, length, slice_index_or}
use Rattle.expression.specs.Expressions.{Expr, letter, empty, pair, or, star}
use Rattle.expression.specs.declared.raw.RawNode.{RawNode}
use Rattle.expression.specs.declared.raw.RawNode.TheVariants.{Letter, Empty, Pair, Or, Star, Unknown}

-- The node with number i; past the end, a kind of node that there is not.
abbrev pub raw : List RawNode → ℕ → RawNode
raw ns i = slice_index_or ns i (Unknown 0)

-- The nodes from a up to before b are one part, which denotes an expression: a node is the last of its part, and its children's parts stand before it.
pub data Part (ns : List RawNode) : ℕ → ℕ → Expr → Type 0 where
  part_letter : {b c : ℕ} → raw ns b ≡ Letter c → Part ns b (suc b) (letter c)
  part_empty : {b : ℕ} → raw ns b ≡ Empty → Part ns b (suc b) empty
  part_pair : {a m b : ℕ} {x y : Expr} → Part ns a m x → Part ns m b y → raw ns b ≡ Pair → Part ns a (suc b) (pair x y)
  part_or : {a m b : ℕ} {x y : Expr} → Part ns a m x → Part ns m b y → raw ns b ≡ Or → Part ns a (suc b) (or x y)
  part_star : {a b : ℕ} {x : Expr} → Part ns a b x → raw ns b ≡ Star → Part ns a (suc b) (star x)

-- A table denotes an expression if its nodes are one part that does.
abbrev pub Denotes : List RawNode → Expr → Type 0
Denotes ns e = Part ns 0 (length ns) e

-- Some part ends just before node i.
abbrev pub OneEnds : List RawNode → ℕ → Type 0
OneEnds ns i = (a : ℕ) × (x : Expr) × Part ns a i x

-- Two adjoining parts end just before node i.
abbrev pub TwoEnd : List RawNode → ℕ → Type 0
TwoEnd ns i = (a : ℕ) × (m : ℕ) × (x : Expr) × (y : Expr) × Part ns a m x × Part ns m i y

-- A letter node counts for one letter.
abbrev pub letter_count : RawNode → ℕ
letter_count (Letter c) = 1
letter_count Empty = 0
letter_count Pair = 0
letter_count Or = 0
letter_count Star = 0
letter_count (Unknown k) = 0

-- The number of letter nodes below number i.
abbrev pub letters_below : List RawNode → ℕ → ℕ
letters_below ns zero = 0
letters_below ns (suc i) = letters_below ns i + letter_count (raw ns i)

-- What breaks a node with number i: a code that gives no letter, 128 letter nodes before it, a missing child, or a kind that there is not.
abbrev pub Faulty : (ℕ → Bool) → List RawNode → ℕ → RawNode → Type 0
Faulty give ns i (Letter c) = (give c ≡ false) ⊎ (128 ≤ letters_below ns i)
Faulty give ns i Empty = ⊥
Faulty give ns i Pair = TwoEnd ns i → ⊥
Faulty give ns i Or = TwoEnd ns i → ⊥
Faulty give ns i Star = OneEnds ns i → ⊥
Faulty give ns i (Unknown k) = Unit {0}

-- The table breaks at node i. Which codes give a letter is told by `give`.
abbrev pub BreaksAt : (ℕ → Bool) → List RawNode → ℕ → Type 0
BreaksAt give ns i = (i < length ns) × Faulty give ns i (raw ns i)
