-- What a whole walk writes. This serves the proofs only: Spelling says what turns spell.
use Rattle.std.specs.Prelude.{◌≡◌, ℕ, ◌+◌, ◌*◌, ◌<◌, ◌≤◌, true, List, length, Some, Ok, Err, Result, None, Option}
use Rattle.std.specs.Option.{option_map}
use Rattle.expression.specs.declared.layout.Layout.{Layout}
use Rattle.expression.specs.declared.walk.NoTree.{NoTree}
use Rattle.expression.specs.Layouts.{nodes_of}
use Rattle.expression.specs.Nodes.{admits_at}
use Rattle.expression.specs.Spelling.{written}

-- The count of a list, which is at most 255 for each of n turns and 255 before them; or none where there is no list.
abbrev pub Counted : Option (List ℕ) → ℕ → Result ℕ NoTree → Type 0
Counted o n (Ok k) = (Some k ≡ option_map length o) × (k ≤ 255 * (n + 1))
Counted o n (Err e) = o ≡ None

-- The list is counted, and written from the start on as far as there is room; or there is none.
abbrev pub Spelled : {A : Type 0} → Option (List A) → Result ℕ NoTree → List A → List A → Type 0
Spelled {A} o (Ok k) buf buf' = (xs : List A) × (o ≡ Some xs) × (k ≡ length xs) × (buf' ≡ written xs 0 buf)
Spelled o (Err e) buf buf' = o ≡ None

-- Items are counted, and written from n on as far as there is room.
pub record Put {A : Type 0} (xs : List A) (n r : ℕ) (buf buf' : List A) : Type 0 where
  pub count : r ≡ length xs
  pub buffer : buf' ≡ written xs n buf

-- Node i has a tree without letters.
pub record Skips (l : Layout) (i : ℕ) : Type 0 where
  pub inside : i < length (nodes_of l)
  pub admits : admits_at (nodes_of l) i ≡ true
