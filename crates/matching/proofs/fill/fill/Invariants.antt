use Rattle.std.proofs.Common.{◌≡◌}
use Rattle.std.specs.Slice.Iter.{iter_rest}
use Rattle.std.specs.Iterator.Adapters.{rev_source, enumerate_source, enumerate_count}
use Rattle.matching.specs.Holding.{whole}
use Rattle.matching.proofs.Filling.{Filled}
use Rattle.matching.proofs.fill.fill.Given as goal

abbrev pub invariant-loop-t : goal.invariant-loop-t
invariant-loop-t g l = record {
  from_first : enumerate_count (rev_source l.t-iterator) ≡ 0;
  filled : Filled g.K.Kind.coded (whole l.layout) l.width l.letters (iter_rest (enumerate_source (rev_source l.t-iterator))) l.fn.work l.work;
}
