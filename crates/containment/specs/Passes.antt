-- The two passes over the nodes that compute what comes after a set of places. This serves the proofs only.
use Rattle.std.specs.Prelude.{◌≡◌, ℕ, ◌<◌, Bool, false, ◌&&◌, ◌||◌, List, slice_index}
use Rattle.expression.specs.declared.node.Node.{Node}
use Rattle.expression.specs.declared.node.Shape.{Shape}
use Rattle.expression.specs.declared.node.Shape.TheVariants.{Letter, Empty, Pair, Or, Star}
use Rattle.expression.specs.Nodes.{admits_at, expr_at}
use Rattle.expression.specs.Places.{code}
use Rattle.containment.specs.declared.after.After.{After}
use Rattle.containment.specs.Stepping.{marked, closes, comes, coded, some_end, some_follow}
use Rattle.containment.specs.Wiring.{before, whole}

-- The answer of a node of this shape, from its children's. A letter's place is told beside it.
abbrev pub closes_by : List Node → List Bool → List Bool → ℕ → Shape → Bool
closes_by ns set closing place (Letter c) = marked set place
closes_by ns set closing place Empty = false
closes_by ns set closing place (Pair i j) = marked closing j || (admits_at ns j && marked closing i)
closes_by ns set closing place (Or i j) = marked closing i || marked closing j
closes_by ns set closing place (Star i) = marked closing i

-- The nodes below n have their answers.
abbrev pub Closing : List Node → List Bool → List Bool → ℕ → Type 0
Closing ns set closing n = (i : ℕ) → i < n → marked closing i ≡ closes (marked set) (before ns i) (expr_at ns i)

-- The places of node i that come next are added to a table.
abbrev pub Spread : List Node → List Bool → ℕ → Bool → List Bool → List Bool → Type 0
Spread ns set i r out out' = (q : ℕ) → marked out' q ≡ marked out q || comes (marked set) (before ns i) (expr_at ns i) r q

-- The codes of the places of node i are put into a table.
abbrev pub Coded : List Node → ℕ → List ℕ → List ℕ → Type 0
Coded ns i out out' = (q : ℕ) → slice_index out' q ≡ coded (before ns i) (expr_at ns i) q (slice_index out q)

-- The table has the code of each place.
abbrev pub AllCoded : List Node → List ℕ → Type 0
AllCoded ns codes = (q : ℕ) → slice_index codes q ≡ code (whole ns) q

-- What comes after the set: may one of it end, and which places follow one of it?
pub record ComesAfter (ns : List Node) (set : List Bool) (r : After) : Type 0 where
  pub ends : r.ends ≡ some_end (whole ns) set
  pub follow : (q : ℕ) → marked r.follow q ≡ some_follow (whole ns) set q
