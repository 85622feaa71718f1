-- What one line says. Bytes count from 0 here, in the rest of a line from its first, and past the end a byte reads as 0.
use Rattle.std.specs.Prelude.{ℕ, ◌+◌, ◌-◌, ◌*◌, ◌%◌, Bool, if◌then◌else◌, not, ◌&&◌, ◌||◌, List, length, drop, Some, None, Ok, Err, Option, Result, ◌==◌, nat_le, nat_lt, slice_index}
use Rattle.std.specs.Char.{is_ascii_digit}
use Rattle.std.specs.Option.{ok_or}
use Rattle.std.proofs.Common.{lit<, mod-lt}
use Rattle.alphabet.specs.declared.mark.Mark.{Mark}
use Rattle.alphabet.specs.declared.mark.Stamp.{Stamp}
use Rattle.alphabet.specs.declared.mark.Stamp.TheVariants.{Absent, WithinDay, Midnight}
use Rattle.alphabet.specs.Codes.{mark}
use Rattle.feed.specs.declared.fault.Fault.{Fault}
use Rattle.feed.specs.declared.line.LineFault.{LineFault}
use Rattle.feed.specs.declared.line.LineFault.TheVariants.{NoDigit, NoBar, NoStamp}

-- The number of each fault, the line n and the byte in it, both from 1.
abbrev pub line_fault : ℕ → LineFault → Fault
line_fault n (NoDigit byte) = record { number = 21; first = n; second = byte }
line_fault n NoBar = record { number = 22; first = n; second = 4 }
line_fault n NoStamp = record { number = 23; first = n; second = 5 }

-- Two digits as a number.
abbrev pub two : ℕ → ℕ → ℕ
two a b = 10 * (a - 48) + (b - 48)

-- The first three digits of a line as a number.
abbrev pub record_number : List ℕ → ℕ
record_number l = 100 * (slice_index l 0 - 48) + 10 * (slice_index l 1 - 48) + (slice_index l 2 - 48)

-- A line, or the rest of one, ends before byte i, or has a bar there.
abbrev pub closes : List ℕ → ℕ → Bool
closes l i = nat_le (length l) i || slice_index l i == 124

-- The class of a time of day: 00:00 and 24:00 are midnight.
abbrev pub time_class : ℕ → ℕ → Option Stamp
time_class h m =
    if m == 0 && (h == 0 || h == 24) then Some Midnight else (if nat_lt h 24 && nat_lt m 60 then Some WithinDay else None)

-- hh:mm begins the rest r of a line, and the line closes after it.
abbrev pub timed : List ℕ → Bool
timed r =
    is_ascii_digit (slice_index r 0) && (is_ascii_digit (slice_index r 1) && (slice_index r 2 == 58 && (is_ascii_digit (slice_index r 3) && (is_ascii_digit (slice_index r 4) && closes r 5))))

-- What stands after the bar, in the rest r of the line: no stamp, or one that is good, or else none of these.
abbrev pub stamp_of : List ℕ → Option Stamp
stamp_of r =
    if closes r 0 then Some Absent else (if timed r then time_class (two (slice_index r 0) (slice_index r 1)) (two (slice_index r 3) (slice_index r 4)) else None)

-- The mark of a record number and a stamp. Three digits stay below 1,000, so the remainder is the number itself.
abbrev pub mark_of : ℕ → Stamp → Mark
mark_of n s = mark (n % 1000) (mod-lt n (lit< tt)) s

-- The mark, if there is a stamp to it.
abbrev pub stamped : ℕ → Option Stamp → Result Mark LineFault
stamped n (Some s) = Ok (mark_of n s)
stamped n None = Err NoStamp

-- The first of three digits, bar and stamp that is missing or wrong is the fault; with none, the line says a mark.
abbrev pub reading : List ℕ → Result Mark LineFault
reading l =
    if not (is_ascii_digit (slice_index l 0)) then Err (NoDigit 1) else
    (if not (is_ascii_digit (slice_index l 1)) then Err (NoDigit 2) else
    (if not (is_ascii_digit (slice_index l 2)) then Err (NoDigit 3) else
    (if not (slice_index l 3 == 124) then Err NoBar else stamped (record_number l) (stamp_of (drop 4 l)))))

-- What the private helpers of the code read: the digit that a byte is, the digit at byte i of a record number or the fault, and the number of two digits.
abbrev pub digit : ℕ → Option ℕ
digit b = if is_ascii_digit b then Some (b - 48) else None

abbrev pub number_digit : List ℕ → ℕ → Result ℕ LineFault
number_digit l i = ok_or (digit (slice_index l i)) (NoDigit (i + 1))

abbrev pub two_digits : ℕ → ℕ → Option ℕ
two_digits a b = if is_ascii_digit a && is_ascii_digit b then Some (two a b) else None
