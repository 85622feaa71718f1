-- A word that refutes containment, and what judging a word answers.
use Rattle.std.specs.Prelude.{ℕ, List, Ok, Err, Result}
use Rattle.expression.specs.Expressions.{Expr}
use Rattle.expression.specs.Words.{Word}
use Rattle.containment.specs.declared.fault.WordFault.{WordFault}
use Rattle.containment.specs.declared.fault.WordFault.TheVariants.{NotEarlier, AlsoLater}

-- w is a word of the earlier expression a and none of the later b.
abbrev pub Refutes : Expr → Expr → List ℕ → Type 0
Refutes a b w = Word a w × (Word b w → ⊥)

-- What judging w answers: accepted if it refutes; refused if it is no word of a, and else if it is also a word of b.
abbrev pub WordJudged : Expr → Expr → List ℕ → Result Unit WordFault → Type 0
WordJudged a b w (Ok done) = Refutes a b w
WordJudged a b w (Err NotEarlier) = Word a w → ⊥
WordJudged a b w (Err AlsoLater) = Word a w × Word b w
