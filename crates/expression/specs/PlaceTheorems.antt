-- What is proved of places.
use Rattle.std.specs.Prelude.{◌≡◌, ℕ, ◌≤◌, true, ◌↔◌, List, [], ◌∷◌}
use Rattle.std.specs.Option.{option_map}
use Rattle.expression.specs.Expressions.{Expr, admits_empty}
use Rattle.expression.specs.Trees.{Tree}
use Rattle.expression.specs.Words.{Word}
use Rattle.expression.specs.Turns.{turns}
use Rattle.expression.specs.Tuples.{Parses, turn_all}
use Rattle.expression.specs.Search.{greedy, first_tree}
use Rattle.expression.specs.Places.{letter_count, code, exprs, continuation, follows, may_end, finishes}
use Rattle.expression.specs.Walks.{walk}

-- The places are those of an automaton: what follows a place is one of the places 1 to the last, and a place can finish letters exactly
-- if it may end and there are none, or a place with the first letter follows it that can finish the others.
pub record Automaton : Type 0 where
  pub within : (e : Expr) (p q : ℕ) → follows e p q ≡ true → (1 ≤ q) × (q ≤ letter_count e)
  pub ends : (e : Expr) (p : ℕ) → (finishes e [] p ≡ true) ↔ (may_end e p ≡ true)
  pub goes_on : (e : Expr) (a : ℕ) (w : List ℕ) (p : ℕ)
      → (finishes e (a ∷ w) p ≡ true) ↔ ((q : ℕ) × (follows e p q ≡ true) × (code e q ≡ a) × (finishes e w q ≡ true))

-- An expression admits the empty word exactly if that is a word of it.
-- A place can finish letters exactly if trees of its continuation spell them; so place 0 can exactly if they are a word.
pub record Finishes : Type 0 where
  pub empty_word : (e : Expr) → (admits_empty e ≡ true) ↔ Word e []
  pub place : (e : Expr) (w : List ℕ) (p : ℕ) → (finishes e w p ≡ true) ↔ ((u : List Tree) × Parses (exprs (continuation e p)) w u)
  pub start : (e : Expr) (w : List ℕ) → (finishes e w 0 ≡ true) ↔ Word e w

-- The walk from a place gives the turns of the first trees of its continuation; from place 0, of the first tree.
pub record Walks : Type 0 where
  pub place : (e : Expr) (w : List ℕ) (p : ℕ) → walk e w p ≡ option_map turn_all (greedy w (exprs (continuation e p)))
  pub start : (e : Expr) (w : List ℕ) → walk e w 0 ≡ option_map turns (first_tree e w)
