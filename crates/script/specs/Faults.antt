-- What a fault is told by: its number, its line, and its place there.
use Rattle.std.specs.Prelude.{ℕ}
use Rattle.figures.specs.declared.Figures.{Figures}
use Rattle.script.specs.declared.fault.TokenFault.{TokenFault}
use Rattle.script.specs.declared.fault.TokenFault.TheVariants.{BadByte, TooLarge}
use Rattle.script.specs.declared.fault.FormFault.{FormFault}
use Rattle.script.specs.declared.fault.FormFault.TheVariants.{Token, Misfit, TooManyNodes, NoMemory}

-- What is wrong: 51 a bad byte, 52 a token that does not fit, 53 a limit passed, 1 want of memory.
abbrev pub number : FormFault → ℕ
number (Token (BadByte p)) = 51
number (Token (TooLarge p)) = 53
number (Misfit p) = 52
number (TooManyNodes p) = 53
number NoMemory = 1

-- Where: the byte from 1. Want of memory has no place, and so 0.
abbrev pub place : FormFault → ℕ
place (Token (BadByte p)) = p
place (Token (TooLarge p)) = p
place (Misfit p) = p
place (TooManyNodes p) = p
place NoMemory = 0

-- The fault of a form is told by its line and its place there; want of memory by its number alone.
abbrev pub form_figures : FormFault → ℕ → Figures
form_figures (Token f) line = record { number = number (Token f); first = line; second = place (Token f) }
form_figures (Misfit p) line = record { number = number (Misfit p); first = line; second = place (Misfit p) }
form_figures (TooManyNodes p) line = record { number = number (TooManyNodes p); first = line; second = place (TooManyNodes p) }
form_figures NoMemory line = record { number = number NoMemory; first = 0; second = place NoMemory }

-- How a fault of a token is one of a form.
abbrev pub wrapped : TokenFault → FormFault
wrapped f = Token f

-- Want of memory.
abbrev pub no_memory : FormFault
no_memory = NoMemory
