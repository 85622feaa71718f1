-- Tests joined by if, and tests that pass together.
use Rattle.std.proofs.Common.{◌≡◌, Bool, true, false, sym, refl}
use borrow.Author.Tests.{clash}
pub use Rattle.containment.specs.Checking.{if_then}

-- Two tests that pass together are the same.
pub same : (x y : Bool) → (x ≡ true → y ≡ true) → (y ≡ true → x ≡ true) → x ≡ y
same true true f g = refl
same true false f g = absurd (clash (f refl))
same false true f g = absurd (clash (g refl))
same false false f g = refl

pub apply : (x y : Bool) → if_then x y ≡ true → x ≡ true → y ≡ true
apply true y h p = h
apply false y h p = absurd (clash p)

pub applied : (x y : Bool) → (x ≡ true → y ≡ true) → if_then x y ≡ true
applied true y f = f refl
applied false y f = refl

pub broken : (x y : Bool) → if_then x y ≡ false → (x ≡ true) × (y ≡ false)
broken true y h = (refl, h)
broken false y h = absurd (clash (sym h))
