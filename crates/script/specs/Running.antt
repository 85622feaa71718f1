-- What a script does and prints.
use Rattle.std.specs.Prelude.{◌≡◌, ℕ, suc, ◌<◌, ◌≤◌, Bool, false, List, [], ◌∷◌, ◌++◌, length, vec_items, ◌≢◌}
use Rattle.expression.specs.declared.raw.RawNode.{RawNode}
use Rattle.register.specs.Lodging as call
use Rattle.register.specs.declared.refusal.Refusal.{Refusal}
use Rattle.script.specs.Answers.{answer_text, refused_text, line_figures, excerpt_of, out_of_memory}
use Rattle.text.specs.Lines.{lines}
use Rattle.script.specs.Dialects.{Dialect}
use Rattle.script.specs.Law as law
use Rattle.script.specs.declared.answer.Answer.{Answer}
use Rattle.script.specs.declared.answer.Answer.TheVariants.{Lodged}
use Rattle.script.specs.declared.answer.LineFault.{LineFault}
use Rattle.script.specs.declared.answer.LineFault.TheVariants.{Form, Call, TooLong}
use Rattle.script.specs.declared.form.Form.{Form as AForm}
use Rattle.script.specs.declared.form.Form.TheVariants.{Lodge}

abbrev pub Tables : Type 0
Tables = List (List RawNode)

-- The call of a form, and its answer.
abbrev pub Calls : (ℕ → Bool) → AForm → Tables → Answer → Tables → Type 0
Calls gives (Lodge v) before (Lodged n) after = call.Lodged gives before (vec_items v) n after

-- The line holds a form, and its call was answered.
abbrev pub Did : Dialect → (ℕ → Bool) → List ℕ → Tables → Answer → Tables → Type 0
Did d gives line before a after = (f : AForm) × law.Accepted d line f × Calls gives f before a after

-- The refusal of a form's call.
abbrev pub Declines : (ℕ → Bool) → AForm → Tables → Refusal → Tables → Type 0
Declines gives (Lodge v) before e after = call.Refused gives before (vec_items v) e after

-- The line holds no form, or its call was refused.
abbrev pub Failed : Dialect → (ℕ → Bool) → List ℕ → Tables → LineFault → Tables → Type 0
Failed d gives line before (Form e) after = law.Refusal d line e × (after ≡ before)
Failed d gives line before (Call e) after = (f : AForm) × law.Accepted d line f × Declines gives f before e after
Failed d gives line before TooLong after = ⊥

-- What is printed of the line with the number n: nothing of an empty line, else its answer, or its refusal and the line itself where it is shown.
pub data Responded (d : Dialect) (gives : ℕ → Bool) (n : ℕ) (line : List ℕ) (before after : Tables) : List ℕ → Type 0 where
  silent : line ≡ [] → after ≡ before → Responded d gives n line before after []
  answered : (a : Answer) → (line ≢ []) → Did d gives line before a after → Responded d gives n line before after (answer_text a)
  refused : (f : LineFault) → (line ≢ []) → Failed d gives line before f after → out_of_memory f ≡ false
      → Responded d gives n line before after (refused_text (line_figures f n) ++ excerpt_of f line)

-- What is printed of lines of which the first has the number n.
pub data Ran (d : Dialect) (gives : ℕ → Bool) : ℕ → List (List ℕ) → Tables → List ℕ → Type 0 where
  ended : {n : ℕ} {before : Tables} → Ran d gives n [] before []
  then : {n : ℕ} {line : List ℕ} {ls : List (List ℕ)} {before after : Tables} {bytes rest : List ℕ}
      → Responded d gives n line before after bytes → Ran d gives (suc n) ls after rest → Ran d gives n (line ∷ ls) before (bytes ++ rest)

-- What a script prints: of one that is too long only that, else what its lines print on an empty register.
pub data Transcript (d : Dialect) (gives : ℕ → Bool) (script : List ℕ) : List ℕ → Type 0 where
  too_long : 16384 < length script → Transcript d gives script (refused_text (line_figures TooLong 0))
  ran : {out : List ℕ} → length script ≤ 16384 → Ran d gives 1 (lines script) [] out → Transcript d gives script out

-- A script prints one thing, whatever the day.
abbrev pub OneTranscript : Type 0
OneTranscript = (d : Dialect) (gives : ℕ → Bool) (script out out' : List ℕ) → Transcript d gives script out → Transcript d gives script out' → out ≡ out'
