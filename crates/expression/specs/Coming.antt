-- What is to come of a walk along a layout. This serves the proofs only: Spelling says what turns spell.
use Rattle.std.specs.Prelude.{ℕ, suc, ◌+◌, ◌<◌, ◌≤◌, Bool, false, if◌then◌else◌, List, [], ◌∷◌, ◌++◌, length, Some, None, Option}
use Rattle.std.specs.Option.{option_map}
use Rattle.expression.specs.declared.node.Node.{Node}
use Rattle.expression.specs.declared.walk.Pending.{Pending}
use Rattle.expression.specs.Expressions.{Expr, letter, empty, pair, or, star}
use Rattle.expression.specs.Nodes.{expr_at}
use Rattle.expression.specs.Optional.{and_then}
use Rattle.expression.specs.Trees.{spells}
use Rattle.expression.specs.Turns.{decode}

-- The number of nodes that an expression takes.
abbrev pub size : Expr → ℕ
size (letter a) = 1
size empty = 1
size (pair e f) = suc (size e + size f)
size (or e f) = suc (size e + size f)
size (star e) = suc (size e)

-- An expression that is to come; again where it is a list after one of its members.
pub record Due : Type 0 where
  pub again : Bool
  pub expr : Expr

abbrev pub due : Bool → Expr → Due
due a e = record { again = a; expr = e }

-- Whether no letter is passed since the last member of a list began, b having told it before these codes.
abbrev pub bare_after : Bool → List ℕ → Bool
bare_after b [] = b
bare_after b (c ∷ w) = false

-- Whether what is due comes after a member without letters.
abbrev pub spent : Due → Bool → Bool
spent d b = if d.again then b else false

-- The codes that turns spell along what is due, where b tells whether the last member that began has no letter so far; nothing if they are no trees of it.
abbrev pub along : List Due → Bool → List ℕ → Option (List ℕ)
along [] b [] = Some []
along [] b (x ∷ ts) = None
along (d ∷ k) b ts =
    if spent d b then None
    else and_then (decode d.expr ts) (λ x. option_map (λ w. spells x.tree ++ w) (along k (bare_after b (spells x.tree)) x.rest))

-- What is due at the nodes to come, the next one first.
abbrev pub dues : List Node → List Pending → List Due
dues ns [] = []
dues ns (p ∷ k) = due p.again (expr_at ns p.node) ∷ dues ns k

abbrev pub weight : List Due → ℕ
weight [] = 0
weight (d ∷ k) = size d.expr + weight k

-- Each node to come stands in the layout, and its part has room on the stack above the nodes that come later.
abbrev pub Fits : List Node → List Pending → Type 0
Fits ns [] = Unit {0}
Fits ns (p ∷ k) = (p.node < length ns) × (length k + size (expr_at ns p.node) ≤ 255) × Fits ns k
