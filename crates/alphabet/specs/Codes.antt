-- The letters and their codes.
use Rattle.std.specs.Prelude.{ℕ, ◌+◌, ◌*◌, ◌/◌, ◌%◌, ◌<◌, if◌then◌else◌, Some, None, Option, Result, ◌==◌, nat_lt}
use Rattle.std.specs.Option.{ok_or, option_and_then}
use Rattle.std.proofs.Math.Decide.{dec_lt}
use Rattle.alphabet.specs.declared.mark.Mark.{Mark}
use Rattle.alphabet.specs.declared.mark.Stamp.{Stamp}
use Rattle.alphabet.specs.declared.mark.UnknownStamp.{UnknownStamp}
use Rattle.alphabet.specs.declared.mark.Stamp.TheVariants.{Absent, WithinDay, Midnight}

-- A code below 256 is a byte.
abbrev pub byte_letter : ℕ → Option ℕ
byte_letter c = if nat_lt c 256 then Some c else None

-- The number of a stamp class.
abbrev pub class_of : Stamp → ℕ
class_of Absent = 0
class_of WithinDay = 1
class_of Midnight = 2

-- A mark's code.
abbrev pub mark_code : Mark → ℕ
mark_code m = 4 * m.number + class_of m.stamp

-- The stamp class with this number.
abbrev pub stamp_classed : ℕ → Option Stamp
stamp_classed c =
    if c == 0 then Some Absent else (if c == 1 then Some WithinDay else (if c == 2 then Some Midnight else None))

-- The stamp class with this number, or else that no class has it.
abbrev pub stamp_read : ℕ → Result Stamp UnknownStamp
stamp_read c = ok_or (stamp_classed c) (record { class = c })

-- A mark, from a record number that is in range.
abbrev pub mark : (n : ℕ) → n < 1000 → Stamp → Mark
mark n h s = record { number = n; stamp = s; ranged = h }

abbrev pub in_range : (n : ℕ) → Dec (n < 1000) → Stamp → Option Mark
in_range n (yes h) s = Some (mark n h s)
in_range n (no _) s = None

-- The mark with a record number and a stamp, where the number is in range.
abbrev pub mark_stamped : ℕ → Stamp → Option Mark
mark_stamped n s = in_range n (dec_lt n 1000) s

-- The mark with a record number and a stamp class, where both are in range.
abbrev pub mark_named : ℕ → ℕ → Option Mark
mark_named n c = option_and_then (mark_stamped n) (stamp_classed c)

-- The mark that a code gives.
abbrev pub mark_letter : ℕ → Option Mark
mark_letter c = mark_named (c / 4) (c % 4)
