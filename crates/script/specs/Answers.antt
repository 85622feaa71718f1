-- How answers are written, and the figures of a refused line.
use Rattle.std.specs.Prelude.{ℕ, Bool, true, false, List, [], ◌++◌, codes, decimal}
use Rattle.figures.specs.Text.{figures_text}
use Rattle.figures.specs.declared.Figures.{Figures}
use Rattle.register.specs.Refusals as call
use Rattle.register.specs.declared.refusal.Refusal.{Refusal}
use Rattle.register.specs.declared.refusal.Refusal.TheVariants as refusal
use Rattle.script.specs.Faults.{form_figures}
use Rattle.script.specs.declared.answer.Answer.{Answer}
use Rattle.script.specs.declared.answer.Answer.TheVariants.{Lodged}
use Rattle.script.specs.declared.answer.LineFault.{LineFault}
use Rattle.script.specs.declared.answer.LineFault.TheVariants.{Form, Call, TooLong}
use Rattle.script.specs.declared.fault.FormFault.{FormFault}
use Rattle.script.specs.declared.fault.FormFault.TheVariants.{Token, Misfit, TooManyNodes, NoMemory}

-- The answer to an accepted line.
abbrev pub answer_words : Answer → List ℕ
answer_words (Lodged n) = codes "(lodged " ++ (decimal n ++ codes ")")

-- That answer as a line of its own.
abbrev pub answer_text : Answer → List ℕ
answer_text a = answer_words a ++ codes "\n"

-- A refusal as a line of its own, by its number and its two values.
abbrev pub refused_text : Figures → List ℕ
refused_text f = figures_text f ++ codes "\n"

-- An offending line, as the bytes that it is.
abbrev pub shown_text : List ℕ → List ℕ
shown_text line = codes "> " ++ (line ++ codes "\n")

-- The number and the two values of a refused line, from its number.
abbrev pub line_figures : LineFault → ℕ → Figures
line_figures (Form f) line = form_figures f line
line_figures (Call e) line = call.figures e
line_figures TooLong line = record { number = 54; first = 0; second = 0 }

-- Only a line that holds no form is shown.
abbrev pub excerpt_of : LineFault → List ℕ → List ℕ
excerpt_of (Form f) line = shown_text line
excerpt_of (Call e) line = []
excerpt_of TooLong line = []

abbrev pub out_of_memory : LineFault → Bool
out_of_memory (Form (Token f)) = false
out_of_memory (Form (Misfit p)) = false
out_of_memory (Form (TooManyNodes p)) = false
out_of_memory (Form NoMemory) = true
out_of_memory (Call (refusal.Table f)) = false
out_of_memory (Call refusal.Full) = false
out_of_memory (Call refusal.NoMemory) = true
out_of_memory TooLong = false

abbrev pub faulted_form : FormFault → LineFault
faulted_form f = Form f

abbrev pub faulted_call : Refusal → LineFault
faulted_call e = Call e
