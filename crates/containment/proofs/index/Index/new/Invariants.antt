use Rattle.std.proofs.Common.{◌≡◌, length}
use Rattle.containment.specs.Format.{rows_of}
use Rattle.containment.specs.Indexing.{Linked}
use Rattle.containment.proofs.index.Index.new.Given as goal

abbrev pub invariant-loop-n : goal.invariant-loop-n
invariant-loop-n l = (length l.nexts ≡ 8192) × (length l.firsts ≡ 129) × Linked (rows_of l.numbers) l.nexts l.firsts l.n
