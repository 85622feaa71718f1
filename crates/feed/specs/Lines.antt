-- The marks that the lines of a file say, and what comes after these.
use Rattle.std.specs.Prelude.{ℕ, ◌+◌, List, [], ◌∷◌, Some, None, Ok, Err, Option, Result}
use Rattle.alphabet.specs.declared.mark.Mark.{Mark}
use Rattle.feed.specs.declared.fault.Fault.{Fault}
use Rattle.feed.specs.declared.line.LineFault.{LineFault}
use Rattle.feed.specs.Line.{line_fault, reading}

-- A line's mark before those of the lines after it; a line at fault lets none through.
abbrev pub mark_first : Result Mark LineFault → List Mark → List Mark
mark_first (Ok m) ms = m ∷ ms
mark_first (Err f) ms = []

-- The marks of the lines before the first that is at fault.
abbrev pub marks : List (List ℕ) → List Mark
marks [] = []
marks (l ∷ ls) = mark_first (reading l) (marks ls)

-- The fault of line n, or else the ending e of the lines after it.
abbrev pub fault_first : ℕ → Result Mark LineFault → Option Fault → Option Fault
fault_first n (Ok m) e = e
fault_first n (Err f) e = Some (line_fault n f)

-- The fault of the first line that is at fault, or none where the end comes; n is the number of the first line.
abbrev pub line_ending : ℕ → List (List ℕ) → Option Fault
line_ending n [] = None
line_ending n (l ∷ ls) = fault_first n (reading l) (line_ending (n + 1) ls)
