-- The turns of the first tree, written down by walking from place to place.
use Rattle.std.specs.Prelude.{ℕ, suc, ◌+◌, if◌then◌else◌, List, [], ◌∷◌, ◌++◌, map, ◌==◌, Some, None, Option}
use Rattle.std.specs.Option.{option_map, option_or}
use Rattle.expression.specs.Expressions.{Expr, letter, empty, pair, or, star}
use Rattle.expression.specs.Trees.{Tree}
use Rattle.expression.specs.Turns.{turns}
use Rattle.expression.specs.Tuples.{turn_all}
use Rattle.expression.specs.Search.{empty_tree, empty_trees}
use Rattle.expression.specs.Places.{letter_count, Item, item, exprs, continuation}

-- A letter that comes next: the turns up to it, its code, its place, and what is to come after it.
pub record Stop : Type 0 where
  pub turned : List ℕ
  pub letter : ℕ
  pub place : ℕ
  pub items : List Item

-- A stop with more turns in front.
abbrev pub after : List ℕ → Stop → Stop
after ts s = record { turned = ts ++ s.turned; letter = s.letter; place = s.place; items = s.items }

-- Stops past an expression with this tree without letters, if it has one.
abbrev pub past : Option Tree → List Stop → List Stop
past None l = []
past (Some t) l = map (after (turns t)) l

-- The stops inside e in order, where o letters stand before e and k is to come after it.
abbrev pub stops : ℕ → Expr → List Item → List Stop
stops o (letter a) k = record { turned = []; letter = a; place = suc o; items = k } ∷ []
stops o empty k = []
stops o (pair e f) k = stops o e (item (o + letter_count e) f ∷ k) ++ past (empty_tree e) (stops (o + letter_count e) f k)
stops o (or e f) k = map (after (0 ∷ [])) (stops o e k) ++ map (after (1 ∷ [])) (stops (o + letter_count e) f k)
stops o (star e) k = map (after (0 ∷ [])) (stops o e (item o (star e) ∷ k))

-- The stops inside a list of items, in order.
abbrev pub all_stops : List Item → List Stop
all_stops [] = []
all_stops (x ∷ k) = stops x.before x.expr k ++ past (empty_tree x.expr) (all_stops k)

-- The turns by way of the first stop with the letter a from which H goes on.
abbrev pub choose : ℕ → (Stop → Option (List ℕ)) → List Stop → Option (List ℕ)
choose a H [] = None
choose a H (s ∷ l) = option_or (if a == s.letter then option_map (λ r. s.turned ++ r) (H s) else None) (choose a H l)

-- The turns from a place on to the end of the letters.
abbrev pub walk : Expr → List ℕ → ℕ → Option (List ℕ)
walk e [] p = option_map turn_all (empty_trees (exprs (continuation e p)))
walk e (a ∷ w) p = choose a (λ s. walk e w s.place) (all_stops (continuation e p))
