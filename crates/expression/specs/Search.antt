-- The first trees that spell a word, found letter by letter.
use Rattle.std.specs.Prelude.{◌≡◌, ℕ, if◌then◌else◌, ◌⊎◌, List, [], ◌∷◌, ◌==◌, Some, None, Option}
use Rattle.std.specs.Option.{option_map, option_or}
use Rattle.expression.specs.Expressions.{Expr, letter, empty, pair, or, star}
use Rattle.expression.specs.Trees.{Tree, leaf, unit, both, left, right, end, more}
use Rattle.expression.specs.Tuples.{on_first, merge}
use Rattle.expression.specs.Optional.{lift2}

-- The first tree of e without letters.
abbrev pub empty_tree : Expr → Option Tree
empty_tree (letter a) = None
empty_tree empty = Some unit
empty_tree (pair e f) = lift2 both (empty_tree e) (empty_tree f)
empty_tree (or e f) = option_or (option_map left (empty_tree e)) (option_map right (empty_tree f))
empty_tree (star e) = Some end

-- The first trees of the items k without letters.
abbrev pub empty_trees : List Expr → Option (List Tree)
empty_trees [] = Some []
empty_trees (e ∷ k) = lift2 ◌∷◌ (empty_tree e) (empty_trees k)

-- The first trees of e ∷ k in which e begins with the letter a; G gives the first trees of the items that are then to come.
abbrev pub enter : ℕ → (List Expr → Option (List Tree)) → Expr → List Expr → Option (List Tree)
enter a G (letter b) k = if a == b then option_map (λ u. leaf b ∷ u) (G k) else None
enter a G empty k = None
enter a G (pair e f) k = option_or (option_map (merge both) (enter a G e (f ∷ k))) (lift2 (λ s. on_first (both s)) (empty_tree e) (enter a G f k))
enter a G (or e f) k = option_or (option_map (on_first left) (enter a G e k)) (option_map (on_first right) (enter a G f k))
enter a G (star e) k = option_map (merge more) (enter a G e (star e ∷ k))

-- The first trees of the items k that begin with the letter a: in the first item that can, past items without letters.
abbrev pub scan : ℕ → (List Expr → Option (List Tree)) → List Expr → Option (List Tree)
scan a G [] = None
scan a G (e ∷ k) = option_or (enter a G e k) (lift2 ◌∷◌ (empty_tree e) (scan a G k))

-- The first trees of the items k that spell a word.
abbrev pub greedy : List ℕ → List Expr → Option (List Tree)
greedy [] k = empty_trees k
greedy (a ∷ w) k = scan a (greedy w) k

abbrev pub head : List Tree → Tree
head [] = unit
head (t ∷ u) = t

-- The first tree of e that spells w.
abbrev pub first_tree : Expr → List ℕ → Option Tree
first_tree e w = option_map head (greedy w (e ∷ []))

-- What an answer has to be: the first, in the order R, of what P holds of, or nothing if P holds of nothing.
abbrev pub FirstOf : {A : Type 0} → (A → Type 0) → (A → A → Type 0) → Option A → Type 0
FirstOf {A} P R None = (u : A) → P u → ⊥
FirstOf {A} P R (Some t) = P t × ((u : A) → P u → (t ≡ u) ⊎ R t u)
