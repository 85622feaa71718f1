-- The walk over all letters. This serves the proofs only.
use Rattle.std.specs.Prelude.{◌≡◌, ℕ, List, ◌++◌, length}
use Rattle.expression.specs.Expressions.{Expr}
use Rattle.expression.specs.Trees.{Tree}
use Rattle.expression.specs.Order.{First}
use Rattle.expression.specs.Spelling.{written}
use Rattle.expression.specs.Turns.{turns}
use Rattle.matching.specs.Rows.{rows}

-- The work begins with the rows of the letters w.
pub record Tabled (e : Expr) (w work : List ℕ) : Type 0 where
  pub rest : List ℕ
  pub is : work ≡ rows e w ++ rest

-- The turns ts were written to the start of the buffer, as far as there is room, and r is their number.
pub record Told (ts : List ℕ) (r : ℕ) (old new : List ℕ) : Type 0 where
  pub count : r ≡ length ts
  pub buffer : new ≡ written ts 0 old

-- So were those of the first tree of w.
abbrev pub Walked : Expr → List ℕ → ℕ → List ℕ → List ℕ → Type 0
Walked e w r old new = (t : Tree) → First e w t → Told (turns t) r old new
