-- Worked lines on rows: two expressions, a list of numbers, and what judging it answers.
use Rattle.std.specs.Prelude.{ℕ, List, [], ◌∷◌, Ok, Err, Result}
use Rattle.expression.specs.Expressions.{Expr, letter, empty, pair, or, star}
use Rattle.expression.specs.Members.{Each}
use Rattle.containment.specs.declared.fault.RowsFault.{RowsFault}
use Rattle.containment.specs.declared.fault.RowsFault.TheVariants.{IllFormed, Start, End, Follower}
use Rattle.containment.specs.Verdicts.{Judged}

pub record Line : Type 0 where
  pub earlier : Expr
  pub later : Expr
  pub numbers : List ℕ
  pub answer : Result Unit RowsFault

abbrev pub line : Expr → Expr → List ℕ → Result Unit RowsFault → Line
line a b ns r = record { earlier = a; later = b; numbers = ns; answer = r }

-- What a line says.
abbrev pub Holds : Line → Type 0
Holds l = Judged l.earlier l.later l.numbers l.answer

-- A half-hour stamped within the day, and one stamped midnight.
abbrev pub h : Expr
h = letter 401

abbrev pub m : Expr
m = letter 402

-- Half-hours, with one stamped midnight at their end, if any.
abbrev pub maybe_midnight : Expr
maybe_midnight = pair (star h) (or m empty)

abbrev pub worked_rows : List Line
worked_rows =
    line (star h) (pair (star h) (star h)) (0 ∷ 1 ∷ 0 ∷ 1 ∷ 1 ∷ 1 ∷ []) (Ok tt)
    ∷ line (star h) (pair (star h) (star h)) (0 ∷ 1 ∷ 0 ∷ []) (Err (Follower 0 1))
    ∷ line (star h) h (0 ∷ 1 ∷ 0 ∷ []) (Err (End 0))
    -- A checker that looked at no codes would accept these.
    ∷ line h m (0 ∷ 1 ∷ 0 ∷ 1 ∷ 1 ∷ 1 ∷ []) (Err (Follower 0 1))
    ∷ line (star h) maybe_midnight (0 ∷ 1 ∷ 0 ∷ 1 ∷ 1 ∷ 1 ∷ []) (Ok tt)
    ∷ line (star h) maybe_midnight [] (Err (IllFormed 0))
    ∷ line (star h) maybe_midnight (2 ∷ 1 ∷ 0 ∷ []) (Err (IllFormed 0))
    ∷ line (star h) maybe_midnight (0 ∷ 4 ∷ []) (Err (IllFormed 1))
    ∷ line (star h) maybe_midnight (0 ∷ 1 ∷ 3 ∷ []) (Err (IllFormed 2))
    ∷ line (star h) maybe_midnight (0 ∷ 2 ∷ 1 ∷ 1 ∷ []) (Err (IllFormed 3))
    ∷ line (star h) maybe_midnight (0 ∷ 2 ∷ 1 ∷ []) (Err (IllFormed 3))
    ∷ line (star h) maybe_midnight (0 ∷ 1 ∷ 1 ∷ 1 ∷ 1 ∷ 1 ∷ []) (Err Start)
    ∷ line (star h) maybe_midnight (0 ∷ 1 ∷ 0 ∷ 1 ∷ 0 ∷ []) (Err (End 1))
    ∷ line (star h) maybe_midnight (0 ∷ 1 ∷ 0 ∷ []) (Err (Follower 0 1))
    ∷ line (star h) maybe_midnight (0 ∷ 1 ∷ 0 ∷ 1 ∷ 1 ∷ 2 ∷ []) (Err (Follower 0 1))
    ∷ []

abbrev pub WorkedRows : Type 0
WorkedRows = Each Holds worked_rows
