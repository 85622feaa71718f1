-- The steps of a walk along a layout. This serves the proofs only: Spelling says what turns spell.
use Rattle.std.specs.Prelude.{◌≡◌, ℕ, zero, suc, ◌+◌, ◌*◌, ◌^◌, ◌<◌, ◌≤◌, Bool, false, if◌then◌else◌, List, [], ◌∷◌, length, reverse, Some, None, Ok, Err, Option, Result}
use Rattle.std.specs.Option.{option_map}
use Rattle.std.specs.Borrow.{Bor}
use Rattle.expression.specs.declared.layout.Layout.{Layout}
use Rattle.expression.specs.declared.walk.NoTree.{NoTree}
use Rattle.expression.specs.declared.walk.Walk.{Walk}
use Rattle.expression.specs.Expressions.{Expr}
use Rattle.expression.specs.Coming.{size, Due, due, along, dues, weight}
use Rattle.expression.specs.Layouts.{nodes_of, expression_of}
use Rattle.expression.specs.Nodes.{expr_at}
use Rattle.expression.specs.Spelling.{codes}

-- What is due, the next first.
abbrev pub dues_of : Walk → List Due
dues_of w = dues (nodes_of w.layout.now) (reverse w.pending.items)

-- The codes that a walk has still to pass.
abbrev pub to_come : Walk → Option (List ℕ)
to_come w = along (dues_of w) w.bare w.turns.now

-- At most how many steps are to come: a turn that is taken adds less than 255.
abbrev pub left : Walk → ℕ
left w = 255 * length w.turns.now + weight (dues_of w)

-- The expression of the node i of a walk's layout.
abbrev pub expr_of : Walk → ℕ → Expr
expr_of w i = expr_at (nodes_of w.layout.now) i

-- The codes to come once the node i is on top.
abbrev pub to_come_by : Walk → ℕ → Option (List ℕ)
to_come_by w i = along (due false (expr_of w i) ∷ dues_of w) w.bare w.turns.now

-- A walk that can go on by visiting the node i.
pub record Next (w : Walk) (i : ℕ) : Type 0 where
  pub inside : i < length (nodes_of w.layout.now)
  pub fits : length w.pending.items + size (expr_of w i) ≤ 255
  pub small : w.letters + (size (expr_of w i) + left w) < 2 ^ 128

-- The turns begin with neither 0 nor 1.
abbrev pub NoTurn : List ℕ → Type 0
NoTurn [] = Unit {0}
NoTurn (zero ∷ ts) = ⊥
NoTurn (suc zero ∷ ts) = ⊥
NoTurn (suc (suc x) ∷ ts) = Unit {0}

-- What the first turn tells, and the turns after it.
abbrev pub Turned : List ℕ → Result (Bool × Bor (List ℕ)) NoTree → Type 0
Turned ts (Ok p) = ts ≡ (if p.0 then 1 else 0) ∷ p.1.now
Turned ts (Err e) = NoTurn ts

-- The walk w' is after the walk w by n letters, and has less to do than m.
pub record GoesOn (w : Walk) (n m : ℕ) (w' : Walk) : Type 0 where
  pub letters : w'.letters ≡ w.letters + n
  pub less : left w' < m

-- A visit of the node i, which may be a letter.
abbrev pub Visited : Walk → ℕ → Result (Option ℕ) NoTree → Walk → Type 0
Visited w i (Ok (Some c)) w' = (to_come_by w i ≡ option_map (λ a. c ∷ a) (to_come w')) × GoesOn w 1 (size (expr_of w i) + left w) w'
Visited w i (Ok None) w' = (to_come_by w i ≡ to_come w') × GoesOn w 0 (size (expr_of w i) + left w) w'
Visited w i (Err e) w' = to_come_by w i ≡ None

-- A step to the next letter, or to the end.
abbrev pub Moved : Walk → Result (Option ℕ) NoTree → Walk → Type 0
Moved w (Ok (Some c)) w' = (to_come w ≡ option_map (λ a. c ∷ a) (to_come w')) × GoesOn w 1 (left w) w'
Moved w (Ok None) w' = (to_come w ≡ Some []) × (w'.letters ≡ w.letters)
Moved w (Err e) w' = to_come w ≡ None

-- A walk that is to spell what these turns spell along the layout.
pub record Begun (l : Layout) (ts : List ℕ) (w : Walk) : Type 0 where
  pub codes : to_come w ≡ codes (expression_of l) ts
  pub letters : w.letters ≡ 0
  pub few : left w ≤ 255 * (length ts + 1)
