-- The marking of a set, place by place.
use Rattle.std.proofs.Common.{◌≡◌, ℕ, Bool, false, ◌||◌, eqb, List, length, drop, ap}
use Rattle.expression.specs.Members.{any}
use Rattle.containment.specs.Stepping.{marked}

-- The places before index i are marked.
pub record Marking (places : List ℕ) (table : List Bool) (i : ℕ) : Type 0 where
  pub long : length table ≡ 129
  pub rest : (p : ℕ) → marked table p || any (eqb p) (drop i places) ≡ any (eqb p) places

pub mark_none : (places : List ℕ) (table : List Bool) → length table ≡ 129 → ((p : ℕ) → marked table p ≡ false) → Marking places table 0
mark_none places table long clear = record { long = long; rest = λ p. ap (λ t. t || any (eqb p) places) (clear p) }
