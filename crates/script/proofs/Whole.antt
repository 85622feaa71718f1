-- A line that is read to its end.
use Rattle.std.proofs.Common.{◌≡◌, ℕ, List, [], ◌∷◌, ◌++◌, length, sym, refl, ap, ◌∙◌, subst, arith}
use Rattle.expression.specs.declared.raw.RawNode.{RawNode}
use Rattle.script.specs.Bytes.{Known}
use Rattle.script.specs.Denoted.{Holds}
use Rattle.script.specs.Dialects.{Dialect}
use Rattle.script.specs.Forms.{lodge, bracketed, is_lodge}
use Rattle.script.specs.Law.{Accepted, Refusal}
use Rattle.script.specs.Machine.{an_expr, the, going, walk, Told}
use Rattle.script.specs.Reading.{Passed, Ended, Read, Led, Completed, Broken}
use Rattle.script.specs.Tokens.{Placed, word, opening, closing, tokens}
use Rattle.script.specs.declared.fault.FormFault.{FormFault}
use Rattle.script.specs.declared.form.Form.{Form}
use Rattle.script.specs.declared.name.FormName.{FormName}
use Rattle.script.specs.declared.name.FormName.TheVariants.{Lodge}
use Rattle.script.proofs.Only.{told_refused, none_wrong}

-- What follows (lodge.
module _ (d : Dialect) (ts us : List Placed) (left : ℕ) (was is : List RawNode) (r : Read d ts 255 left us was is) where
  module _ (vs : List Placed) (p : Passed us 41 vs) where
    through : walk d (going 255 (an_expr ∷ (the 41 ∷ (the 10 ∷ [])))) ts ≡ walk d (going left (the 10 ∷ [])) vs
    through = r.walks (the 41 ∷ (the 10 ∷ [])) ∙ p.walks d left (the 10 ∷ [])

    pub lodges : (f : Form) → Holds d (lodge r.brackets) f → Ended vs → Completed d Lodge ts f
    lodges f h e =
        record {
          left = left;
          walks = through ∙ e.walks d left [];
          form = lodge r.brackets;
          tokens = ap (λ ts. word is_lodge ∷ ts) (sym (r.tokens ∙ ap (λ ts. bracketed d r.brackets ++ ts) (p.tokens ∙ ap (λ ts. closing ∷ ts) e.tokens)));
          within = record { low = r.low; expr = r.expr; denotes = r.denotes; small = omega (arith, r.count) };
          holds = h;
        }

-- There is one form so far.
pub one_name : (x : FormName) → x ≡ Lodge
one_name Lodge = refl

-- A line that begins with the name of a form.
module _ (d : Dialect) (line : List ℕ) (known : Known line (length line)) (x : FormName) (us : List Placed) (l : Led (tokens line) x us) where
  pub accepted : (f : Form) → Completed d x us f → Accepted d line f
  accepted f c =
      record {
        known = known;
        form = c.form;
        spells = ap (λ ts. opening ∷ ts) c.tokens ∙ sym l.tokens;
        within = c.within;
        holds = c.holds;
        clean = none_wrong d (tokens line) c.left [] (l.walks d ∙ c.walks);
      }

  pub refused : (f : FormFault) → Broken d x us f → Refusal d line f
  refused f t = told_refused d line f known (subst (Told f) (sym (l.walks d)) t)
