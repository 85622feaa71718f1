-- What `array::from_fn` makes.
use Rattle.std.proofs.Common.{◌≡◌, ℕ, zero, suc, ◌+◌, ◌<◌, ◌≤◌, List, get_or, sym, subst, arith}
use native.Mathlib.Decide.{ℕ_discrete}
use denote.Param.Members.{Mut}
use Rattle.std.specs.Array.{IsFromFnResult, IsFromFnResultFrom}
use Rattle.std.specs.Fn.{Called}

-- Each call leaves the closure as it is, and its answer is P of its number.
module _ {F B : Type 0} (g : Mut F (ℕ × Unit {0}) B) (f : F) (P : ℕ → B → Type 0) (step : (k : ℕ) (r : B) (q : F) → Called g f (k, tt) r q → (q ≡ f) × P k r) where
  filled_from : (ys : List B) (n i : ℕ) → IsFromFnResultFrom g f ys i n → (k : ℕ) (d : B) → i ≤ k → k < i + n → P k (get_or ys k d)
  filled_from ys zero i e k d l b = absurd (omega arith)
  filled_from ys (suc n) i (q, y, at, call, rest) k d l b =
      elim (ℕ_discrete i k) [
        | yes s ↦ subst (λ j. P j (get_or ys j d)) s (subst (P i) (sym (at.1 d)) (step i y q call).1)
        | no ne ↦ filled_from ys n (i + 1) (subst (λ v. IsFromFnResultFrom g v ys (i + 1) n) (step i y q call).0 rest) k d (omega arith) (omega arith)
      ]

  pub filled : (ys : List B) (n : ℕ) → IsFromFnResult g f ys n → (k : ℕ) (d : B) → k < n → P k (get_or ys k d)
  filled ys n e k d b = filled_from ys n 0 e.each k d (omega arith) (omega arith)
