use Rattle.std.proofs.Common.{◌-◌, length}
use Rattle.containment.specs.Format.{rows_of}
use Rattle.containment.proofs.Indexing.{Noted}
use Rattle.containment.proofs.index.note_starts.Given as goal

abbrev pub invariant-loop-start : goal.invariant-loop-start
invariant-loop-start l = Noted (rows_of l.numbers) l.numbers l.starts l.count l.start

abbrev pub decreases-loop-start : goal.decreases-loop-start
decreases-loop-start l = length l.numbers - l.start
