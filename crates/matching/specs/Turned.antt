-- Turns that are written one after the other. This serves the proofs only.
use Rattle.std.specs.Prelude.{◌≡◌, ℕ, ◌+◌, ◌^◌, ◌<◌, List, [], length, unwrap_or}
use Rattle.expression.specs.Expressions.{Expr}
use Rattle.expression.specs.Spelling.{written, empty_turns}
use Rattle.matching.specs.declared.turns.Turns.{Turns}

-- The turns of the first tree without letters, or none.
abbrev pub blank : Expr → List ℕ
blank e = unwrap_or (empty_turns e) []

-- The turns xs were written after those before them, as far as there is room, and counted.
pub record Wrote (xs : List ℕ) (old new : Turns) : Type 0 where
  pub buffer : new.buffer.now ≡ written xs old.count old.buffer.now
  pub count : new.count ≡ old.count + length xs

-- They were, if the count can take them, and the buffer is still the same one.
pub record Put (xs : List ℕ) (old new : Turns) : Type 0 where
  pub same : new.buffer.ghost_name ≡ old.buffer.ghost_name
  pub wrote : old.count + length xs < 2 ^ 64 → Wrote xs old new
