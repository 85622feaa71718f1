-- The rules as tests, and the verdict that they compute. This serves the proofs only: Verdicts says what a verdict means.
use Rattle.std.specs.Prelude.{ℕ, suc, Bool, true, false, if◌then◌else◌, not, ◌&&◌, List, [], ◌∷◌, find, Some, None, Ok, Err, Option, Result, ◌==◌}
use Rattle.std.specs.List.{list_all, range_with_len}
use Rattle.expression.specs.Expressions.{Expr}
use Rattle.expression.specs.Members.{any}
use Rattle.expression.specs.Places.{letter_count, code, follows, may_end}
use Rattle.containment.specs.declared.fault.RowsFault.{RowsFault}
use Rattle.containment.specs.declared.fault.RowsFault.TheVariants.{IllFormed, Start, End, Follower}
use Rattle.containment.specs.Rows.{Row}
use Rattle.containment.specs.Format.{ill, rows_of}

-- y, if x.
abbrev pub if_then : Bool → Bool → Bool
if_then x y = if x then y else true

-- Is it the set of 0 alone?
abbrev pub only_zero : List ℕ → Bool
only_zero [] = false
only_zero (q ∷ []) = q == 0
only_zero (q ∷ p ∷ l) = false

-- Rule 1.
abbrev pub begins : List Row → Bool
begins [] = false
begins (r ∷ rows) = r.place == 0 && only_zero r.set

-- Rule 2.
abbrev pub ends_too : Expr → Expr → Row → Bool
ends_too a b r = if_then (may_end a r.place) (any (may_end b) r.set)

-- Has q the code c, and does it follow one of the set?
abbrev pub stepped : Expr → ℕ → List ℕ → ℕ → Bool
stepped b c s q = code b q == c && any (λ p. follows b p q) s

-- Does the row o serve the follower f of the row r?
abbrev pub serves : Expr → Expr → Row → ℕ → Row → Bool
serves a b r f o = o.place == f && list_all (stepped b (code a f) r.set) o.set

-- Does some row serve f?
abbrev pub served : Expr → Expr → List Row → Row → ℕ → Bool
served a b rows r f = any (serves a b r f) rows

-- Is f a follower that no row serves?
abbrev pub unserved : Expr → Expr → List Row → Row → ℕ → Bool
unserved a b rows r f = follows a r.place f && not (served a b rows r f)

-- Rule 3 is broken for the follower, if there is one.
abbrev pub at_follower : ℕ → Option ℕ → Option RowsFault
at_follower n None = None
at_follower n (Some f) = Some (Follower n f)

-- The fault of the row r with number n.
abbrev pub row_fault : Expr → Expr → List Row → ℕ → Row → Option RowsFault
row_fault a b rows n r =
    if ends_too a b r then at_follower n (find (unserved a b rows r) (range_with_len 1 (letter_count a))) else Some (End n)

abbrev pub or_else : Option RowsFault → Option RowsFault → Option RowsFault
or_else None o = o
or_else (Some f) o = Some f

-- The first fault of some of the rows, numbered from n on.
abbrev pub rows_fault : Expr → Expr → List Row → ℕ → List Row → Option RowsFault
rows_fault a b rows n [] = None
rows_fault a b rows n (r ∷ l) = or_else (row_fault a b rows n r) (rows_fault a b rows (suc n) l)

-- The first fault of rows.
abbrev pub rules_fault : Expr → Expr → List Row → Option RowsFault
rules_fault a b rows = if begins rows then rows_fault a b rows 0 rows else Some Start

abbrev pub ill_fault : Option ℕ → Option RowsFault → Option RowsFault
ill_fault None o = o
ill_fault (Some i) o = Some (IllFormed i)

-- The fault of a list.
abbrev pub list_fault : Expr → Expr → List ℕ → Option RowsFault
list_fault a b ns = ill_fault (ill (letter_count a) (letter_count b) ns) (rules_fault a b (rows_of ns))

-- The verdict, from the fault.
abbrev pub verdict : Option RowsFault → Result Unit RowsFault
verdict None = Ok tt
verdict (Some f) = Err f

-- The verdict on the order of a list, from where it is ill formed.
abbrev pub order_verdict : Option ℕ → Result Unit RowsFault
order_verdict o = verdict (ill_fault o None)
