-- What a lodging does.
use Rattle.std.specs.Prelude.{◌≡◌, ℕ, ◌<◌, Bool, List, [], ◌∷◌, ◌++◌, length, ◌≢◌, slice_index_or}
use Rattle.expression.specs.Expressions.{Expr}
use Rattle.expression.specs.Verdicts.{Good, Faults}
use Rattle.expression.specs.declared.raw.RawNode.{RawNode}
use Rattle.register.specs.declared.refusal.Refusal.{Refusal}
use Rattle.register.specs.declared.refusal.Refusal.TheVariants.{Table, Full, NoMemory}

-- The table is good: it denotes an expression within the bounds.
abbrev pub SomeGood : (ℕ → Bool) → List RawNode → Type 0
SomeGood gives t = (e : Expr) × Good gives t e

-- There is room, and the table t comes last: its number n is the count of those before it.
pub record Placed (before : List (List RawNode)) (t : List RawNode) (n : ℕ) (after : List (List RawNode)) : Type 0 where
  pub room : length before < 16
  pub number : n ≡ length before
  pub tables : after ≡ before ++ t ∷ []

-- A good table was placed.
pub record Lodged (gives : ℕ → Bool) (before : List (List RawNode)) (t : List RawNode) (n : ℕ) (after : List (List RawNode)) : Type 0 where
  pub good : SomeGood gives t
  pub placed : Placed before t n after

-- Sixteen layouts are lodged.
abbrev pub Crowded : List (List RawNode) → Refusal → Type 0
Crowded before (Table f) = ⊥
Crowded before Full = length before ≡ 16
Crowded before NoMemory = Unit {0}

-- Why a lodging is refused: first for the table, then for want of room. Want of memory can come at any time.
abbrev pub Cause : (ℕ → Bool) → List (List RawNode) → List RawNode → Refusal → Type 0
Cause gives before t (Table f) = Faults gives t f
Cause gives before t Full = SomeGood gives t × Crowded before Full
Cause gives before t NoMemory = Unit {0}

-- A refused lodging leaves every table as it was.
pub record Refused (gives : ℕ → Bool) (before : List (List RawNode)) (t : List RawNode) (e : Refusal) (after : List (List RawNode)) : Type 0 where
  pub cause : Cause gives before t e
  pub tables : after ≡ before

-- Each number keeps the table that it meant.
abbrev pub Kept : List (List RawNode) → List (List RawNode) → Type 0
Kept before after = (i : ℕ) → i < length before → slice_index_or after i [] ≡ slice_index_or before i []

-- What the tables before and the table t leave open of an answer: nothing.
pub record Settled (gives : ℕ → Bool) (before : List (List RawNode)) (t : List RawNode) : Type 0 where
  pub one_number : (n m : ℕ) (after after' : List (List RawNode)) → Lodged gives before t n after → Lodged gives before t m after' → (n ≡ m) × (after ≡ after')
  pub apart : (n : ℕ) (e : Refusal) (after after' : List (List RawNode)) → Lodged gives before t n after → Refused gives before t e after' → e ≡ NoMemory
  pub one_refusal : (e f : Refusal) (after after' : List (List RawNode)) → Refused gives before t e after → Refused gives before t f after'
      → (e ≢ NoMemory) → (f ≢ NoMemory) → e ≡ f

-- Want of memory aside, a lodging has one answer.
abbrev pub OneAnswer : Type 0
OneAnswer = (gives : ℕ → Bool) (before : List (List RawNode)) (t : List RawNode) → Settled gives before t
