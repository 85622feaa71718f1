-- What the layers of the example make of a file.
use Rattle.std.specs.Prelude.{ℕ, List, map}
use Rattle.alphabet.specs.declared.mark.Mark.{Mark}
use Rattle.alphabet.specs.Codes.{mark_code, mark_letter}
use Rattle.feed.specs.declared.tables.Pair.{Pair}
use Rattle.feed.specs.Layers.{kept, renamed}
use Rattle.feed.specs.Lines.{marks}
use Rattle.text.specs.Lines.{lines}

-- The marks of a file's lines, without those whose codes are listed, and the others renamed.
abbrev pub sifted : List ℕ → List Pair → List ℕ → List Mark
sifted codes pairs file = map (renamed mark_code mark_letter pairs) (kept mark_code codes (marks (lines file)))
