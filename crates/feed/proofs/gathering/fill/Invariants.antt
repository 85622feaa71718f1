use Rattle.std.proofs.Common.{◌≡◌, ◌≤◌, ◌++◌, length, take, drop}
use Rattle.std.specs.Prelude.{All}
use Rattle.feed.proofs.gathering.fill.Given as goal

-- The first letters are taken, as many as are counted, and stand in the buffer.
abbrev pub invariant-loop-count : goal.invariant-loop-count
invariant-loop-count g l =
    (g.F.Feed.waiting l.feed ≡ drop l.count (g.F.Feed.waiting l.initial.feed)) ×
    (l.buf ≡ take l.count (g.F.Feed.waiting l.initial.feed) ++ drop l.count l.initial.buf) ×
    (l.count ≤ length (g.F.Feed.waiting l.initial.feed)) ×
    (g.F.Feed.ending l.feed ≡ g.F.Feed.ending l.initial.feed) ×
    All g.F.Of.Kind.ranged (take l.count (g.F.Feed.waiting l.initial.feed))
