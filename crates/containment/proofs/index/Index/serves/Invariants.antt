use Rattle.std.proofs.Common.{◌-◌}
use Rattle.containment.specs.Format.{rows_of}
use Rattle.containment.proofs.Serving.{Looking}
use Rattle.containment.proofs.index.Index.serves.Given as goal

abbrev pub invariant-loop-n : goal.invariant-loop-n
invariant-loop-n l = Looking (rows_of l.self.numbers.now) l.follow l.codes l.code l.f l.n

abbrev pub decreases-loop-n : goal.decreases-loop-n
decreases-loop-n l = l.self.count - l.n
