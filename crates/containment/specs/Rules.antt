-- The three rules of rows from an earlier expression a to a later one b.
use Rattle.std.specs.Prelude.{◌≡◌, ℕ, true, List, [], ◌∷◌}
use Rattle.expression.specs.Expressions.{Expr}
use Rattle.expression.specs.Places.{code, follows, may_end}
use Rattle.containment.specs.Rows.{Row, Among}

-- Rule 1: the first row is the place 0 with the set of 0 alone.
abbrev pub Begins : List Row → Type 0
Begins [] = ⊥
Begins (r ∷ rows) = (r.place ≡ 0) × (r.set ≡ 0 ∷ [])

-- Rule 2: if the row's place may end, so may one of its set.
abbrev pub Ends : Expr → Expr → Row → Type 0
Ends a b r = may_end a r.place ≡ true → (q : ℕ) × Among q r.set × (may_end b q ≡ true)

-- The row o serves the follower f of row r: it is a row for f, and each place of its set has f's code and follows some place of r's set.
pub record Serves (a b : Expr) (r : Row) (f : ℕ) (o : Row) : Type 0 where
  pub place : o.place ≡ f
  pub coded : (q : ℕ) → Among q o.set → code b q ≡ code a f
  pub reached : (q : ℕ) → Among q o.set → (p : ℕ) × Among p r.set × (follows b p q ≡ true)

-- Some row serves f.
abbrev pub Served : Expr → Expr → List Row → Row → ℕ → Type 0
Served a b rows r f = (o : Row) × Among o rows × Serves a b r f o

-- Rule 3: each follower of the row's place is served.
abbrev pub GoesOn : Expr → Expr → List Row → Row → Type 0
GoesOn a b rows r = (f : ℕ) → follows a r.place f ≡ true → Served a b rows r f

-- The rows keep the rules.
pub record Keeps (a b : Expr) (rows : List Row) : Type 0 where
  pub begins : Begins rows
  pub ends : (r : Row) → Among r rows → Ends a b r
  pub goes_on : (r : Row) → Among r rows → GoesOn a b rows r
