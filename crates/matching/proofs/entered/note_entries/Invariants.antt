use Rattle.std.proofs.Common.{◌≡◌, length}
use Rattle.matching.specs.Passes.{Entries}
use Rattle.matching.proofs.entered.note_entries.Given as goal

abbrev pub invariant-loop-i : goal.invariant-loop-i
invariant-loop-i l = record { long : length l.enterable ≡ 256; right : Entries l.layout l.code l.next l.enterable l.i }
