-- Buffers that are written over.
use Rattle.std.specs.Prelude.{ℕ, List, ◌++◌, length, drop}

-- A buffer with a list written over its beginning.
abbrev pub written : List ℕ → List ℕ → List ℕ
written xs buffer = xs ++ drop (length xs) buffer
