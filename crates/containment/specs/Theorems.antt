-- What rows and words show of two expressions.
use Rattle.std.specs.Prelude.{◌≡◌, ℕ, ◌⊎◌, List, Result}
use Rattle.expression.specs.Expressions.{Expr}
use Rattle.expression.specs.Words.{Word}
use Rattle.expression.specs.Places.{letter_count}
use Rattle.containment.specs.declared.fault.RowsFault.{RowsFault}
use Rattle.containment.specs.declared.fault.WordFault.{WordFault}
use Rattle.containment.specs.Rows.{Row, AllRanged}
use Rattle.containment.specs.Rules.{Keeps}
use Rattle.containment.specs.Refuting.{Refutes, WordJudged}
use Rattle.containment.specs.Verdicts.{Judged}

-- Every word of a is a word of b.
abbrev pub Contained : Expr → Expr → Type 0
Contained a b = (w : List ℕ) → Word a w → Word b w

-- Rows that keep the rules show containment.
abbrev pub Sound : Type 0
Sound = (a b : Expr) (rows : List Row) → Keeps a b rows → Contained a b

-- There are rows in range that keep the rules or a word that refutes, and never both.
pub record Decided (a b : Expr) : Type 0 where
  pub either : ((rows : List Row) × AllRanged (letter_count a) (letter_count b) rows × Keeps a b rows) ⊎ ((w : List ℕ) × Refutes a b w)
  pub never_both : (rows : List Row) → Keeps a b rows → (w : List ℕ) → Refutes a b w → ⊥

abbrev pub RowsOrWord : Type 0
RowsOrWord = (a b : Expr) → Decided a b

-- Each list of numbers, and each word, has one verdict.
pub record OneVerdict (a b : Expr) (ns : List ℕ) : Type 0 where
  pub rows : (r s : Result Unit RowsFault) → Judged a b ns r → Judged a b ns s → r ≡ s
  pub word : (r s : Result Unit WordFault) → WordJudged a b ns r → WordJudged a b ns s → r ≡ s

abbrev pub OneVerdicts : Type 0
OneVerdicts = (a b : Expr) (ns : List ℕ) → OneVerdict a b ns
