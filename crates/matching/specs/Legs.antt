-- The turns from one place to the next. This serves the proofs only.
use Rattle.std.specs.Prelude.{◌≡◌, ℕ, suc, ◌+◌, ◌-◌, Bool, List, [], ◌∷◌, ◌++◌, Some, None, Option, slice_index_or, if◌then◌else◌}
use Rattle.expression.specs.Expressions.{Expr, letter, empty, pair, or, star}
use Rattle.expression.specs.Places.{letter_count, Item, continuations}
use Rattle.matching.specs.Passes.{enters, enters_in}
use Rattle.matching.specs.Turned.{Put, blank}
use Rattle.matching.specs.declared.turns.Turns.{Turns}

-- Turns, and the place of the letter that they lead to, if they do.
pub record Leg : Type 0 where
  pub turned : List ℕ
  pub place : Option ℕ

-- A leg with more turns in front.
abbrev pub behind : List ℕ → Leg → Leg
behind ts g = record { turned = ts ++ g.turned; place = g.place }

-- The way to the first usable letter inside e.
abbrev pub route : ℕ → (ℕ → Bool) → ℕ → Expr → Leg
route a next o (letter c) = record { turned = []; place = Some (suc o) }
route a next o empty = record { turned = []; place = None }
route a next o (pair e f) = if enters a next o e then route a next o e else behind (blank e) (route a next (o + letter_count e) f)
route a next o (or e f) = if enters a next o e then behind (0 ∷ []) (route a next o e) else behind (1 ∷ []) (route a next (o + letter_count e) f)
route a next o (star e) = behind (0 ∷ []) (route a next o e)

-- The same of a part.
abbrev pub route_in : ℕ → (ℕ → Bool) → Item → Leg
route_in a next x = route a next x.before x.expr

-- The way through the items to the first usable letter, or past them all.
abbrev pub leg : ℕ → (ℕ → Bool) → List Item → Leg
leg a next [] = record { turned = []; place = None }
leg a next (x ∷ k) = if enters_in a next x then route_in a next x else behind (blank x.expr) (leg a next k)

-- The turns past all items, none of which has letters.
abbrev pub rest_turns : List Item → List ℕ
rest_turns [] = []
rest_turns (x ∷ k) = blank x.expr ++ rest_turns k

-- What is to come after place p inside a part.
abbrev pub after_in : Item → ℕ → List Item
after_in x p = slice_index_or (continuations x.before x.expr []) (p - suc x.before) []

-- The turns of a leg were written, and the place is the one that it leads to.
pub record Gone (g : Leg) (place : Option ℕ) (old new : Turns) : Type 0 where
  pub put : Put g.turned old new
  pub leads : place ≡ g.place
