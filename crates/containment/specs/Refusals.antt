-- The figures of each refusal.
use Rattle.std.specs.Prelude.{ℕ}
use Rattle.figures.specs.declared.Figures.{Figures}
use Rattle.containment.specs.declared.fault.RowsFault.{RowsFault}
use Rattle.containment.specs.declared.fault.RowsFault.TheVariants.{IllFormed, Start, End, Follower}
use Rattle.containment.specs.declared.fault.WordFault.{WordFault}
use Rattle.containment.specs.declared.fault.WordFault.TheVariants.{NotEarlier, AlsoLater}

-- A refusal's number and its two values.
abbrev pub figures : ℕ → ℕ → ℕ → Figures
figures number first second = record { number = number; first = first; second = second }

abbrev pub rows_refusal : RowsFault → Figures
rows_refusal (IllFormed i) = figures 31 i 0
rows_refusal Start = figures 32 0 0
rows_refusal (End n) = figures 33 n 0
rows_refusal (Follower n f) = figures 34 n f

abbrev pub word_refusal : WordFault → Figures
word_refusal NotEarlier = figures 36 0 0
word_refusal AlsoLater = figures 37 0 0
