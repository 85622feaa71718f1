-- Routes: the ways from an expression to a letter inside it, which take a tree with letters apart.
use Rattle.std.specs.Prelude.{◌≡◌, ℕ, true, List, [], ◌∷◌, ◌++◌}
use Rattle.expression.specs.Expressions.{Expr, letter, pair, or, star}
use Rattle.expression.specs.Trees.{Tree, leaf, both, left, right, more, TreeOf, spells, has_letters}
use Rattle.expression.specs.Words.{Parse}
use Rattle.expression.specs.Order.{Before}
use Rattle.expression.specs.Tuples.{TreesOf, spell_all, on_first, merge}

-- A way down to a letter. On the way into the second part of a pair the first is passed over: it has a tree without letters.
pub data Route : Type 0 where
  arrive : Route
  in_first : Route → Route
  in_second : Tree → Route → Route
  in_left : Route → Route
  in_right : Route → Route
  in_member : Route → Route

-- The route r leads through e, with k to come after e, to the letter a, with k' to come after the letter.
pub data Way : Expr → List Expr → Route → ℕ → List Expr → Type 0 where
  way_arrive : {a : ℕ} {k : List Expr} → Way (letter a) k arrive a k
  way_first : {e f : Expr} {k k' : List Expr} {r : Route} {a : ℕ} → Way e (f ∷ k) r a k' → Way (pair e f) k (in_first r) a k'
  way_second : {e f : Expr} {k k' : List Expr} {r : Route} {a : ℕ} {s : Tree} → Parse e [] s → Way f k r a k' → Way (pair e f) k (in_second s r) a k'
  way_left : {e f : Expr} {k k' : List Expr} {r : Route} {a : ℕ} → Way e k r a k' → Way (or e f) k (in_left r) a k'
  way_right : {e f : Expr} {k k' : List Expr} {r : Route} {a : ℕ} → Way f k r a k' → Way (or e f) k (in_right r) a k'
  way_member : {e : Expr} {k k' : List Expr} {r : Route} {a : ℕ} → Way e (star e ∷ k) r a k' → Way (star e) k (in_member r) a k'

-- The trees of e ∷ k that a route through e, its letter and trees of what is then to come make up.
abbrev pub roll : Route → ℕ → List Tree → List Tree
roll arrive a u = leaf a ∷ u
roll (in_first r) a u = merge both (roll r a u)
roll (in_second s r) a u = on_first (both s) (roll r a u)
roll (in_left r) a u = on_first left (roll r a u)
roll (in_right r) a u = on_first right (roll r a u)
roll (in_member r) a u = merge more (roll r a u)

-- The order of routes through one expression.
pub data Sooner : Expr → Route → Route → Type 0 where
  sooner_first : {e f : Expr} {r r' : Route} {s : Tree} → Sooner (pair e f) (in_first r) (in_second s r')
  sooner_in_first : {e f : Expr} {r r' : Route} → Sooner e r r' → Sooner (pair e f) (in_first r) (in_first r')
  sooner_passed : {e f : Expr} {r r' : Route} {s s' : Tree} → Before e s s' → Sooner (pair e f) (in_second s r) (in_second s' r')
  sooner_in_second : {e f : Expr} {r r' : Route} {s s' : Tree} → s ≡ s' → Sooner f r r' → Sooner (pair e f) (in_second s r) (in_second s' r')
  sooner_left : {e f : Expr} {r r' : Route} → Sooner (or e f) (in_left r) (in_right r')
  sooner_in_left : {e f : Expr} {r r' : Route} → Sooner e r r' → Sooner (or e f) (in_left r) (in_left r')
  sooner_in_right : {e f : Expr} {r r' : Route} → Sooner f r r' → Sooner (or e f) (in_right r) (in_right r')
  sooner_in_member : {e : Expr} {r r' : Route} → Sooner e r r' → Sooner (star e) (in_member r) (in_member r')

-- Trees of e ∷ k that spell w, the first of them with letters.
pub data Begins (e : Expr) (k : List Expr) (w : List ℕ) : List Tree → Type 0 where
  begins : {t : Tree} {u : List Tree} → TreeOf e t → has_letters t ≡ true → TreesOf k u → spells t ++ spell_all u ≡ w → Begins e k w (t ∷ u)

-- Trees v of e ∷ k that spell w, taken apart: a route through e, its letter, and trees of what is then to come.
pub record Unrolled (e : Expr) (k : List Expr) (w : List ℕ) (v : List Tree) : Type 0 where
  pub route : Route
  pub letter : ℕ
  pub items : List Expr
  pub rest : List Tree
  pub way : Way e k route letter items
  pub are : TreesOf items rest
  pub spelt : letter ∷ spell_all rest ≡ w
  pub is : roll route letter rest ≡ v
