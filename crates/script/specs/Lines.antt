-- A line by its number, and the text that it stands in.
use Rattle.std.specs.Prelude.{ℕ, zero, suc, List, [], slice_index_or}
use Rattle.script.specs.declared.source.Source.{Source}
use Rattle.script.specs.declared.source.Source.TheVariants.{Script, File}

-- The line with a number from 1, or the empty one where there is none.
abbrev pub numbered : List (List ℕ) → ℕ → List ℕ
numbered ls zero = []
numbered ls (suc n) = slice_index_or ls n []

-- The text that is named, of a script and a file.
abbrev pub text_of : Source → List ℕ → List ℕ → List ℕ
text_of Script script file = script
text_of File script file = file
