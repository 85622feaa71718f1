-- What judging a list of numbers answers.
use Rattle.std.specs.Prelude.{◌≡◌, ℕ, ◌<◌, true, List, length, Some, Ok, Err, Result}
use Rattle.expression.specs.Expressions.{Expr}
use Rattle.expression.specs.Places.{letter_count, follows}
use Rattle.containment.specs.declared.fault.RowsFault.{RowsFault}
use Rattle.containment.specs.declared.fault.RowsFault.TheVariants.{IllFormed, Start, End, Follower}
use Rattle.containment.specs.Rows.{Row, row_at}
use Rattle.containment.specs.Format.{ill, rows_of, Formed}
use Rattle.containment.specs.Rules.{Begins, Ends, Served, GoesOn, Keeps}

-- Rule 1 and, of each row below number n, rules 2 and 3 are kept.
pub record KeptBelow (a b : Expr) (rows : List Row) (n : ℕ) : Type 0 where
  pub within : n < length rows
  pub begins : Begins rows
  pub ends : (i : ℕ) → i < n → Ends a b (row_at rows i)
  pub goes_on : (i : ℕ) → i < n → GoesOn a b rows (row_at rows i)

-- f is the lowest follower of the row's place that no row serves.
pub record FirstUnserved (a b : Expr) (rows : List Row) (r : Row) (f : ℕ) : Type 0 where
  pub follower : follows a r.place f ≡ true
  pub unserved : Served a b rows r f → ⊥
  pub below : (g : ℕ) → g < f → follows a r.place g ≡ true → Served a b rows r g

-- The first rule that rows break: rule 1, then row by row rule 2 before rule 3, and of rule 3 the lowest follower.
abbrev pub Breaks : Expr → Expr → List Row → RowsFault → Type 0
Breaks a b rows (IllFormed i) = ⊥
Breaks a b rows Start = Begins rows → ⊥
Breaks a b rows (End n) = KeptBelow a b rows n × (Ends a b (row_at rows n) → ⊥)
Breaks a b rows (Follower n f) = KeptBelow a b rows n × Ends a b (row_at rows n) × FirstUnserved a b rows (row_at rows n) f

-- The list is well formed and its rows keep the rules.
pub record Admits (a b : Expr) (ns : List ℕ) : Type 0 where
  pub formed : Formed (letter_count a) (letter_count b) (rows_of ns) ns
  pub keeps : Keeps a b (rows_of ns)

-- The fault of a list: where it is ill formed, else the first rule that its rows break.
abbrev pub Faults : Expr → Expr → List ℕ → RowsFault → Type 0
Faults a b ns (IllFormed i) = ill (letter_count a) (letter_count b) ns ≡ Some i
Faults a b ns Start = Formed (letter_count a) (letter_count b) (rows_of ns) ns × Breaks a b (rows_of ns) Start
Faults a b ns (End n) = Formed (letter_count a) (letter_count b) (rows_of ns) ns × Breaks a b (rows_of ns) (End n)
Faults a b ns (Follower n f) = Formed (letter_count a) (letter_count b) (rows_of ns) ns × Breaks a b (rows_of ns) (Follower n f)

-- What judging answers: accepted if the list is well formed and keeps the rules, else its fault.
abbrev pub Judged : Expr → Expr → List ℕ → Result Unit RowsFault → Type 0
Judged a b ns (Ok done) = Admits a b ns
Judged a b ns (Err f) = Faults a b ns f
