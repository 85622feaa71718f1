use Rattle.std.proofs.Common.{◌≡◌, length}
use Rattle.feed.specs.Tables.{codes_of}
use Rattle.feed.specs.Layers.{kept}
use Rattle.feed.proofs.layers.take_past.Given as goal

-- What the list keeps is what it kept at the start, and the ending stays.
abbrev pub invariant-loop-letter : goal.invariant-loop-letter
invariant-loop-letter g l =
    (kept g.F.Of.Kind.coded (codes_of l.list) (g.F.Feed.waiting l.feed) ≡ kept g.F.Of.Kind.coded (codes_of l.list) (g.F.Feed.waiting l.initial.feed)) ×
    (g.F.Feed.ending l.feed ≡ g.F.Feed.ending l.initial.feed)

abbrev pub decreases-loop-letter : goal.decreases-loop-letter
decreases-loop-letter g l = length (g.F.Feed.waiting l.feed)
