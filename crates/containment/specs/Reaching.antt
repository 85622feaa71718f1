-- Membership of a word by sets of places. This serves the proofs only.
use Rattle.std.specs.Prelude.{◌≡◌, ℕ, ◌<◌, Bool, true, false, ◌&&◌, List, ◌==◌}
use Rattle.expression.specs.Expressions.{Expr}
use Rattle.expression.specs.Members.{any}
use Rattle.expression.specs.Places.{code, finishes}
use Rattle.expression.specs.Words.{Word}
use Rattle.containment.specs.Stepping.{marked, places, some_follow}

-- Can one of the set finish these letters?
abbrev pub some_finish : Expr → List Bool → List ℕ → Bool
some_finish e set w = any (λ p. marked set p && finishes e w p) (places e)

-- The set of the places below n that have the code c and follow one of a set.
abbrev pub Stepped : Expr → List Bool → ℕ → ℕ → List Bool → Type 0
Stepped e set c n next = (q : ℕ) → q < n → marked next q ≡ (code e q == c) && some_follow e set q

-- The answer to whether w is a word of e.
abbrev pub TellsWord : Expr → List ℕ → Bool → Type 0
TellsWord e w true = Word e w
TellsWord e w false = Word e w → ⊥
