-- A mark and its code give each other. This file serves the proofs only: the impl of marks names `back` and `only`.
use Rattle.std.specs.Prelude.{◌≡◌, ℕ, ◌+◌, ◌*◌, ◌/◌, ◌%◌, ◌<◌, Some, None, Option, refl}
use Rattle.std.proofs.Common.{ap, subst, arith}
use Rattle.std.proofs.Math.Bridge.{le_prop}
use Rattle.std.proofs.Math.Decide.{dec_lt}
use Rattle.alphabet.specs.declared.mark.Mark.{Mark}
use Rattle.alphabet.specs.declared.mark.Stamp.{Stamp}
use Rattle.alphabet.specs.declared.mark.Stamp.TheVariants.{Absent, WithinDay, Midnight}
use Rattle.std.specs.Option.{option_and_then}
use Rattle.alphabet.specs.Codes.{class_of, mark_code, stamp_classed, mark, in_range, mark_stamped, mark_letter}

-- A record number in range is a mark with its stamp, whichever proof says so.
pub ranged_stamped : (n : ℕ) (h : n < 1000) (s : Stamp) → mark_stamped n s ≡ Some (mark n h s)
ranged_stamped n h s = go (dec_lt n 1000)
  where
    go : (d : Dec (n < 1000)) → in_range n d s ≡ Some (mark n h s)
    go (yes k) = ap (λ p. Some (mark n p s)) (le_prop k h)
    go (no f) = absurd (f h)

-- The same of a stamp that may not be there.
pub ranged_named : (n : ℕ) (h : n < 1000) (s : Stamp) (o : Option Stamp) → o ≡ Some s → option_and_then (mark_stamped n) o ≡ Some (mark n h s)
ranged_named n h s o e = rw e (ranged_stamped n h s)

-- With no stamp, or a record number out of range, there is no mark.
pub unnamed_class : (n : ℕ) (o : Option Stamp) → o ≡ None → option_and_then (mark_stamped n) o ≡ None
unnamed_class n o e = rw e refl

pub unnamed_number : (n : ℕ) (o : Option Stamp) → (n < 1000 → ⊥) → option_and_then (mark_stamped n) o ≡ None
unnamed_number n None f = refl
unnamed_number n (Some s) f = go (dec_lt n 1000)
  where
    go : (d : Dec (n < 1000)) → in_range n d s ≡ None
    go (yes h) = absurd (f h)
    go (no _) = refl

pub classed : (s : Stamp) → stamp_classed (class_of s) ≡ Some s
classed Absent = refl
classed WithinDay = refl
classed Midnight = refl

low : (s : Stamp) → class_of s < 4
low Absent = omega arith
low WithinDay = omega arith
low Midnight = omega arith

-- The code of a mark gives that mark.
pub back : (m : Mark) → mark_letter (mark_code m) ≡ Some m
back m =
    let l = low m.stamp in
    let q : (4 * m.number + class_of m.stamp) / 4 ≡ m.number = omega arith in
    let r : (4 * m.number + class_of m.stamp) % 4 ≡ class_of m.stamp = omega arith in
    rw (q, r, classed m.stamp) (ranged_stamped m.number m.ranged m.stamp)

of_class : (c : ℕ) (s : Stamp) → stamp_classed c ≡ Some s → class_of s ≡ c
of_class c Absent e = grind arith
of_class c WithinDay e = grind arith
of_class c Midnight e = grind arith

-- A code that gives a mark is that mark's code.
pub only : (c : ℕ) (m : Mark) → mark_letter c ≡ Some m → mark_code m ≡ c
only c m = go (dec_lt (c / 4) 1000) (stamp_classed (c % 4)) refl
  where
    go : (d : Dec (c / 4 < 1000)) (o : Option Stamp) → stamp_classed (c % 4) ≡ o → option_and_then (in_range (c / 4) d) o ≡ Some m → mark_code m ≡ c
    go (yes h) (Some s) q e = let k = of_class (c % 4) s q in let t : mark (c / 4) h s ≡ m = cc in subst (λ x. mark_code x ≡ c) t (omega arith)
    go (yes h) None q e = grind arith
    go (no f) (Some s) q e = grind arith
    go (no f) None q e = grind arith
