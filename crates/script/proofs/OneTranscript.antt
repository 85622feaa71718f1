-- A script prints one thing.
use Rattle.std.proofs.Common.{◌≡◌, ℕ, suc, ◌+◌, ◌<◌, Bool, false, List, ◌++◌, length, Some, vec_items, sym, refl, ap, ◌∙◌, subst, arith}
use native.Mathlib.Decide.{dec_lt}
use Rattle.expression.specs.declared.raw.RawNode.{RawNode}
use Rattle.register.proofs.OneAnswer.{one_answer}
use Rattle.register.specs.Lodging as call
use Rattle.register.specs.declared.refusal.Refusal.{Refusal}
use Rattle.register.specs.declared.refusal.Refusal.TheVariants as refusal
use Rattle.script.specs.Answers.{answer_text, refused_text, line_figures, excerpt_of, out_of_memory}
use Rattle.script.specs.Bytes.{Known, Spoiled}
use Rattle.script.specs.Denoted.{Holds, postfix, denoted}
use Rattle.script.specs.Dialects.{Dialect}
use Rattle.script.specs.Forms.{Written, lodge}
use Rattle.script.specs.Law.{Accepted, Refused, Refusal as Unread}
use Rattle.script.specs.Running.{Tables, Calls, Declines, Did, Failed, Responded, silent, answered, refused, Ran, ended, then, Transcript, too_long, ran, OneTranscript}
use Rattle.script.specs.declared.answer.Answer.{Answer}
use Rattle.script.specs.declared.answer.Answer.TheVariants.{Lodged}
use Rattle.script.specs.declared.answer.LineFault.{LineFault}
use Rattle.script.specs.declared.answer.LineFault.TheVariants.{Form, Call, TooLong}
use Rattle.script.specs.declared.fault.TokenFault.TheVariants.{BadByte, TooLarge}
use Rattle.script.specs.declared.fault.FormFault.{FormFault}
use Rattle.script.specs.declared.fault.FormFault.TheVariants.{Token, Misfit, TooManyNodes, NoMemory}
use Rattle.script.specs.declared.form.Form.{Form as AForm}
use Rattle.script.specs.declared.form.Form.TheVariants.{Lodge}
use Rattle.script.proofs.Same.{opposed}
use Rattle.script.proofs.Unique.{one_fault, one_form}

abbrev tabled : AForm → List RawNode
tabled (Lodge v) = vec_items v

holds_one : (d : Dialect) (v w : Written) (f g : AForm) → v ≡ w → Holds d v f → Holds d w g → tabled f ≡ tabled g
holds_one d (lodge x) (lodge y) (Lodge s) (Lodge t) e h k =
    let q : x ≡ y = cc in
    let r : Some h.0 ≡ Some k.0 = sym h.1 ∙ (ap (denoted d) q ∙ k.1) in
    let z : h.0 ≡ k.0 = cc in
    h.2 ∙ (ap postfix z ∙ sym k.2)

-- A line that is a form has one table.
one_table : (d : Dialect) (line : List ℕ) (f g : AForm) → Accepted d line f → Accepted d line g → tabled f ≡ tabled g
one_table d line f g a b = holds_one d a.form b.form f g (one_form d a.form b.form (a.spells ∙ sym b.spells)) a.holds b.holds

-- A fault of a line: want of memory, the first bad byte, or the leftmost wrong token.
data Told (d : Dialect) (line : List ℕ) : FormFault → Type 0 where
  no_memory : Told d line NoMemory
  bad_byte : {p : ℕ} → Spoiled line p → Told d line (Token (BadByte p))
  wrong : {e : FormFault} → Refused d line e → Told d line e

told : (d : Dialect) (line : List ℕ) (e : FormFault) → Unread d line e → Told d line e
told d line (Token (BadByte p)) u = bad_byte u
told d line (Token (TooLarge p)) u = wrong u
told d line (Misfit p) u = wrong u
told d line (TooManyNodes p) u = wrong u
told d line NoMemory u = no_memory

clean : (line : List ℕ) (p : ℕ) → Known line (length line) → Spoiled line p → ⊥
clean line p k s = opposed (sym (k s.index s.inside) ∙ s.strange)

form_or_fault : {d : Dialect} {line : List ℕ} {e : FormFault} (f : AForm) → Accepted d line f → Told d line e → e ≡ NoMemory
form_or_fault f a no_memory = refl
form_or_fault {line = line} f a (bad_byte {p} s) = absurd (clean line p a.known s)
form_or_fault f a (wrong r) = absurd (r.no_form a.form a.spells a.within)

one_byte : (line : List ℕ) (p q : ℕ) → Spoiled line p → Spoiled line q → p ≡ q
one_byte line p q s t = go (dec_lt s.index t.index) (dec_lt t.index s.index)
  where
    go : Dec (s.index < t.index) → Dec (t.index < s.index) → p ≡ q
    go (yes h) _ = opposed (sym (t.before s.index h) ∙ s.strange)
    go (no _) (yes h) = opposed (sym (s.before t.index h) ∙ t.strange)
    go (no f) (no g) = let e : s.index ≡ t.index = omega arith in s.place ∙ (ap (λ i. i + 1) e ∙ sym t.place)

one_told : {d : Dialect} {line : List ℕ} {e f : FormFault} → Told d line e → Told d line f → (e ≡ NoMemory → ⊥) → (f ≡ NoMemory → ⊥) → e ≡ f
one_told no_memory t a b = absurd (a refl)
one_told (bad_byte s) no_memory a b = absurd (b refl)
one_told {line = line} (bad_byte {p} s) (bad_byte {p = q} t) a b = ap (λ x. Token (BadByte x)) (one_byte line p q s t)
one_told {line = line} (bad_byte {p} s) (wrong r) a b = absurd (clean line p r.known s)
one_told (wrong r) no_memory a b = absurd (b refl)
one_told {line = line} (wrong r) (bad_byte {p = q} t) a b = absurd (clean line q r.known t)
one_told {d} {line} {e} {f} (wrong r) (wrong q) a b = one_fault d _ e f r.leftmost q.leftmost

form_memory : (e : FormFault) → out_of_memory (Form e) ≡ false → e ≡ NoMemory → ⊥
form_memory e o q = opposed (sym (ap (λ x. out_of_memory (Form x)) q) ∙ o)

call_memory : (e : Refusal) → out_of_memory (Call e) ≡ false → e ≡ refusal.NoMemory → ⊥
call_memory e o q = opposed (sym (ap (λ x. out_of_memory (Call x)) q) ∙ o)

module _ (d : Dialect) (gives : ℕ → Bool) (n : ℕ) (line : List ℕ) (before : Tables) where
  -- What was lodged, of which table.
  lodging : (after : Tables) (f : AForm) (a : Answer) → Calls gives f before a after → (k : ℕ) × (a ≡ Lodged k) × call.Lodged gives before (tabled f) k after
  lodging after (Lodge v) (Lodged k) c = (k, refl, c)

  declined : (after : Tables) (f : AForm) (e : Refusal) → Declines gives f before e after → call.Refused gives before (tabled f) e after
  declined after (Lodge v) e c = c

  one_did : (after after' : Tables) (a b : Answer) → Did d gives line before a after → Did d gives line before b after' → (after ≡ after') × (a ≡ b)
  one_did after after' a b (f, p, c) (g, q, c') =
      let (k, e, l) = lodging after f a c in
      let (k', e', l') = lodging after' g b c' in
      let s = (one_answer gives before (tabled f)).one_number k k' after after' l (subst (λ t. call.Lodged gives before t k' after') (sym (one_table d line f g p q)) l') in
      (s.1, e ∙ (ap Lodged s.0 ∙ sym e'))

  did_or_failed : (after after' : Tables) (a : Answer) (e : LineFault) → Did d gives line before a after → Failed d gives line before e after' → out_of_memory e ≡ false → ⊥
  did_or_failed after after' a (Form e) (f, p, c) u o = form_memory e o (form_or_fault f p (told d line e u.0))
  did_or_failed after after' a (Call e) (f, p, c) (g, q, c') o =
      let (k, _, l) = lodging after f a c in
      let r = subst (λ t. call.Refused gives before t e after') (sym (one_table d line f g p q)) (declined after' g e c') in
      call_memory e o ((one_answer gives before (tabled f)).apart k e after after' l r)
  did_or_failed after after' a TooLong (f, p, c) u o = u

  one_failed : (after after' : Tables) (e f : LineFault) → Failed d gives line before e after → Failed d gives line before f after'
      → out_of_memory e ≡ false → out_of_memory f ≡ false → (after ≡ after') × (e ≡ f)
  one_failed after after' (Form e) (Form f) u v o p =
      (u.1 ∙ sym v.1, ap Form (one_told (told d line e u.0) (told d line f v.0) (form_memory e o) (form_memory f p)))
  one_failed after after' (Form e) (Call f) u (g, q, c) o p = absurd (form_memory e o (form_or_fault g q (told d line e u.0)))
  one_failed after after' (Form e) TooLong u v o p = absurd v
  one_failed after after' (Call e) (Form f) (g, q, c) v o p = absurd (form_memory f p (form_or_fault g q (told d line f v.0)))
  one_failed after after' (Call e) (Call f) (g, q, c) (g', q', c') o p =
      let r = declined after g e c in
      let r' = subst (λ t. call.Refused gives before t f after') (sym (one_table d line g g' q q')) (declined after' g' f c') in
      (r.tables ∙ sym r'.tables, ap Call ((one_answer gives before (tabled g)).one_refusal e f after after' r r' (call_memory e o) (call_memory f p)))
  one_failed after after' (Call e) TooLong u v o p = absurd v
  one_failed after after' TooLong f u v o p = absurd u

  one_response : {after after' : Tables} {bytes bytes' : List ℕ} → Responded d gives n line before after bytes → Responded d gives n line before after' bytes'
      → (after ≡ after') × (bytes ≡ bytes')
  one_response (silent e p) (silent e' p') = (p ∙ sym p', refl)
  one_response (silent e p) (answered a ne x) = absurd (ne e)
  one_response (silent e p) (refused f ne x o) = absurd (ne e)
  one_response (answered a ne x) (silent e p) = absurd (ne e)
  one_response {after} {after'} (answered a ne x) (answered b ne' y) = let s = one_did after after' a b x y in (s.0, ap answer_text s.1)
  one_response {after} {after'} (answered a ne x) (refused f ne' y o) = absurd (did_or_failed after after' a f x y o)
  one_response (refused f ne x o) (silent e p) = absurd (ne e)
  one_response {after} {after'} (refused f ne x o) (answered a ne' y) = absurd (did_or_failed after' after a f y x o)
  one_response {after} {after'} (refused f ne x o) (refused g ne' y p) =
      let s = one_failed after after' f g x y o p in (s.0, ap (λ e. refused_text (line_figures e n) ++ excerpt_of e line) s.1)

one_run : {d : Dialect} {gives : ℕ → Bool} {n : ℕ} {ls : List (List ℕ)} {before : Tables} {out out' : List ℕ} → Ran d gives n ls before out → Ran d gives n ls before out' → out ≡ out'
one_run ended ended = refl
one_run {d} {gives} {n} {before = before} (then {line = line} {ls = ls} {after = after} {bytes = bytes} {rest = rest} r s) (then {after = after'} {bytes = bytes'} {rest = rest'} r' s') =
    let q = one_response d gives n line before r r' in
    ap (λ b. b ++ rest) q.1 ∙ ap (λ t. bytes' ++ t) (one_run s (subst (λ t. Ran d gives (suc n) ls t rest') (sym q.0) s'))

one : (d : Dialect) (gives : ℕ → Bool) (script : List ℕ) {out out' : List ℕ} → Transcript d gives script out → Transcript d gives script out' → out ≡ out'
one d gives script (too_long l) (too_long l') = refl
one d gives script (too_long l) (ran s r) = absurd (omega arith)
one d gives script (ran s r) (too_long l) = absurd (omega arith)
one d gives script (ran s r) (ran s' r') = one_run r r'

pub one_transcript : OneTranscript
one_transcript d gives script out out' p q = one d gives script p q
