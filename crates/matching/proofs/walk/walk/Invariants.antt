use Rattle.std.proofs.Common.{◌≡◌, map}
use Rattle.std.specs.Slice.Iter.{iter_rest, chunks_rest, chunks_size}
use Rattle.std.specs.Iterator.Adapters.{zip_first, zip_second}
use Rattle.matching.specs.Holding.{whole}
use Rattle.matching.proofs.WalkLaws.{On}
use Rattle.matching.proofs.walk.walk.Given as goal

abbrev pub invariant-loop-letter : goal.invariant-loop-letter
invariant-loop-letter g l =
    let w = map g.K.Kind.coded l.letters in
    let left = map g.K.Kind.coded (iter_rest (zip_first l.letter-iterator)) in
    record {
      chunked : chunks_size (zip_second l.letter-iterator) ≡ l.width;
      on : On (whole l.layout) w left l.width l.place (chunks_rest (zip_second l.letter-iterator)) l.initial.turns l.turns;
    }
