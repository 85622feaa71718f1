-- The two dialects, and how each writes a letter: a mark is a word and its numbers.
use Rattle.std.specs.Prelude.{ℕ, if◌then◌else◌, List, [], ◌∷◌, Some, None, codes, Option, ◌==◌}
use Rattle.alphabet.specs.Codes.{byte_letter, mark_code, mark_named}
use Rattle.alphabet.specs.declared.mark.Mark.{Mark}

-- Letters are marks of records in one, and bytes in the other.
pub data Dialect : Type 0 where
  marks : Dialect
  bytes : Dialect

-- The dialect that a number tells: 0 tells marks, and any other bytes.
abbrev pub dialect : ℕ → Dialect
dialect kind = if kind == 0 then marks else bytes

-- The word that a mark begins with.
abbrev pub mark_word : Dialect → List ℕ
mark_word marks = codes "m"
mark_word bytes = codes "b"

-- How many numbers a mark has.
abbrev pub mark_size : Dialect → ℕ
mark_size marks = 2
mark_size bytes = 1

-- The code of a mark, where there is one.
abbrev pub mark_coded : Option Mark → Option ℕ
mark_coded (Some m) = Some (mark_code m)
mark_coded None = None

-- The code of the letter that the numbers of a mark name: a record number and a class, or a byte's value.
abbrev pub code_named : Dialect → List ℕ → Option ℕ
code_named marks [] = None
code_named marks (n ∷ []) = None
code_named marks (n ∷ (c ∷ [])) = mark_coded (mark_named n c)
code_named marks (n ∷ (c ∷ (x ∷ xs))) = None
code_named bytes [] = None
code_named bytes (v ∷ []) = byte_letter v
code_named bytes (v ∷ (x ∷ xs)) = None
