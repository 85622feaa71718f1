-- What is left to read at a cursor. This file serves the proofs only.
use Rattle.std.specs.Prelude.{List}
use Rattle.script.specs.Tokens.{Placed, lexed, idle}
use Rattle.script.specs.declared.cursor.Cursor.{Cursor}

-- The tokens from the cursor on.
abbrev pub ahead : Cursor → List Placed
ahead c = lexed idle c.at c.rest.now
