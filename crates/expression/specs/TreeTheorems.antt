-- What is proved of trees, turns, the order and the search.
use Rattle.std.specs.Prelude.{◌≡◌, ℕ, ◌⊎◌, ◌↔◌, List, [], ◌∷◌, ◌++◌, Some, None}
use Rattle.expression.specs.Expressions.{Expr}
use Rattle.expression.specs.Trees.{Tree, TreeOf}
use Rattle.expression.specs.Words.{Parse, Word}
use Rattle.expression.specs.Turns.{turns, decoded, decode, tree_with}
use Rattle.expression.specs.Order.{Before, First}
use Rattle.expression.specs.Tuples.{TreesOf, spell_all, Parses, Lex}
use Rattle.expression.specs.Search.{empty_tree, greedy, first_tree, FirstOf}
use Rattle.expression.specs.Routes.{Route, Way, roll, Sooner, Begins, Unrolled}

-- The order is strict, transitive, and total on the trees of one expression.
pub record Ordered : Type 0 where
  pub irreflexive : (e : Expr) (t : Tree) → Before e t t → ⊥
  pub transitive : (e : Expr) (t u v : Tree) → Before e t u → Before e u v → Before e t v
  pub total : (e : Expr) (t u : Tree) → TreeOf e t → TreeOf e u → (t ≡ u) ⊎ (Before e t u ⊎ Before e u t)

-- Letters have at most one first tree, and have one exactly if they are a word.
pub record OneFirst : Type 0 where
  pub unique : (e : Expr) (w : List ℕ) (t u : Tree) → First e w t → First e w u → t ≡ u
  pub exists : (e : Expr) (w : List ℕ) → ((t : Tree) × First e w t) ↔ Word e w

-- Turns tell the trees of one expression apart, and where they end.
abbrev pub TurnsDetermine : Type 0
TurnsDetermine = (e : Expr) (t u : Tree) (s s' : List ℕ) → TreeOf e t → TreeOf e u → turns t ++ s ≡ turns u ++ s' → (t ≡ u) × (s ≡ s')

-- Reading a tree from turns finds exactly the trees of the expression.
pub record Decodes : Type 0 where
  pub prefix : (e : Expr) (ts : List ℕ) (t : Tree) (rest : List ℕ) → (decode e ts ≡ Some (decoded t rest)) ↔ (TreeOf e t × (ts ≡ turns t ++ rest))
  pub exact : (e : Expr) (ts : List ℕ) (t : Tree) → (tree_with e ts ≡ Some t) ↔ (TreeOf e t × (turns t ≡ ts))

-- The search finds the first tree, or nothing exactly if there is no tree; so does the search over several items, and the one for a tree without letters.
pub record Finds : Type 0 where
  pub tree : (e : Expr) (w : List ℕ) (t : Tree) → (first_tree e w ≡ Some t) ↔ First e w t
  pub missing : (e : Expr) (w : List ℕ) → (first_tree e w ≡ None) ↔ (Word e w → ⊥)
  pub items : (w : List ℕ) (k : List Expr) → FirstOf (Parses k w) (Lex k) (greedy w k)
  pub without_letters : (e : Expr) → FirstOf (Parse e []) (Before e) (empty_tree e)

-- Trees of e ∷ k of which the first has letters are a route through e, its letter, and trees of what is then to come:
-- always, with nothing else, in one way, and in the order of the routes and then of those trees.
pub record Unrolls : Type 0 where
  pub apart : (e : Expr) (k : List Expr) (w : List ℕ) (v : List Tree) → Begins e k w v → Unrolled e k w v
  pub together : (e : Expr) (k k₁ : List Expr) (r : Route) (a : ℕ) (u : List Tree) → Way e k r a k₁ → TreesOf k₁ u → Begins e k (a ∷ spell_all u) (roll r a u)
  pub unique : (e : Expr) (k k₁ k₂ : List Expr) (r₁ r₂ : Route) (a₁ a₂ : ℕ) (u₁ u₂ : List Tree) → Way e k r₁ a₁ k₁ → Way e k r₂ a₂ k₂ → TreesOf k₁ u₁ → TreesOf k₂ u₂
      → roll r₁ a₁ u₁ ≡ roll r₂ a₂ u₂ → (r₁ ≡ r₂) × (a₁ ≡ a₂) × (k₁ ≡ k₂) × (u₁ ≡ u₂)
  pub order : (e : Expr) (k k₁ k₂ : List Expr) (r₁ r₂ : Route) (a₁ a₂ : ℕ) (u₁ u₂ : List Tree) → Way e k r₁ a₁ k₁ → Way e k r₂ a₂ k₂ → TreesOf k₁ u₁ → TreesOf k₂ u₂
      → Lex (e ∷ k) (roll r₁ a₁ u₁) (roll r₂ a₂ u₂) ↔ (Sooner e r₁ r₂ ⊎ ((r₁ ≡ r₂) × Lex k₁ u₁ u₂))
