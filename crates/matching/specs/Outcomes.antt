-- What reading letters under a layout answers, and what it leaves in the buffers.
use Rattle.std.specs.Prelude.{◌≡◌, ℕ, if◌then◌else◌, List, length, Some, None, Ok, Err, Option, Result, nat_lt}
use Rattle.expression.specs.Expressions.{Expr}
use Rattle.expression.specs.Trees.{Tree}
use Rattle.expression.specs.Words.{Word}
use Rattle.expression.specs.Order.{First}
use Rattle.expression.specs.Turns.{turns}
use Rattle.matching.specs.declared.fault.MatchFault.{MatchFault}
use Rattle.matching.specs.declared.fault.MatchFault.TheVariants.{TooLong, ShortWork, NoWord, ShortTurns}
use Rattle.matching.specs.Rows.{rows, work_size}
use Rattle.matching.specs.Written.{written}

-- The most letters that are read: 2^40, so that work bytes and turns can be counted.
abbrev pub longest : ℕ
longest = 1099511627776

-- The first tree of e that spells w, or nothing if w is no word of e.
abbrev pub Reading : Expr → List ℕ → Option Tree → Type 0
Reading e w None = Word e w → ⊥
Reading e w (Some t) = First e w t

-- All letters have just one reading, so what is said of each reading is said of the one.
pub record OneReading : Type 0 where
  pub some_reading : (e : Expr) (w : List ℕ) → (o : Option Tree) × Reading e w o
  pub same_reading : (e : Expr) (w : List ℕ) (o o' : Option Tree) → Reading e w o → Reading e w o' → o ≡ o'

-- What is answered, and what the two buffers then hold.
pub record Outcome : Type 0 where
  pub answer : Result ℕ MatchFault
  pub work : List ℕ
  pub turned : List ℕ

abbrev pub refused : MatchFault → List ℕ → List ℕ → Outcome
refused fault work turned = record { answer = Err fault; work = work; turned = turned }

-- The outcome once the work is done: the number of turns, which begin the buffer, if there is a tree and they fit.
abbrev pub told : List ℕ → Option Tree → List ℕ → List ℕ → Outcome
told w None work turned = refused (NoWord (length w)) work turned
told w (Some t) work turned =
    if nat_lt (length turned) (length (turns t)) then refused (ShortTurns (length (turns t))) work turned
    else record { answer = Ok (length (turns t)); work = work; turned = written (turns t) turned }

-- The outcome of reading w, by its first tree, with these buffers.
abbrev pub outcome : Expr → List ℕ → Option Tree → List ℕ → List ℕ → Outcome
outcome e w o work turned =
    if nat_lt longest (length w) then refused TooLong work turned
    else if nat_lt (length work) (work_size e w) then refused (ShortWork (work_size e w)) work turned
    else told w o (written (rows e w) work) turned

-- Reading w comes to the outcome x: that by its one reading.
abbrev pub IsOutcome : Expr → List ℕ → List ℕ → List ℕ → Outcome → Type 0
IsOutcome e w work turned x = (o : Option Tree) → Reading e w o → x ≡ outcome e w o work turned
