-- What the fault of a list of rows tells.
use Rattle.std.proofs.Common.{◌≡◌, ℕ, ◌↔◌, List, Some, None, Ok, Err, Option, Result, sym, refl, ap, ◌∙◌, subst}
use Rattle.expression.specs.declared.layout.Layout.{Layout}
use Rattle.expression.specs.Expressions.{Expr}
use Rattle.expression.specs.Layouts.{places_of, expression_of}
use Rattle.expression.specs.Places.{letter_count}
use Rattle.containment.specs.declared.fault.RowsFault.{RowsFault}
use Rattle.containment.specs.Format.{ill, rows_of}
use Rattle.containment.specs.Checking.{ill_fault, list_fault, rules_fault, verdict, order_verdict}
use Rattle.containment.specs.Theorems.{Contained}
use Rattle.containment.specs.Verdicts.{Admits, Judged}
use Rattle.containment.proofs.Judging.{judged, only}
use Rattle.containment.proofs.Sound.{sound}
use Rattle.containment.proofs.Wiring.{wired}

-- What judging a list promises.
pub record Told (a b : Expr) (ns : List ℕ) (r : Result Unit RowsFault) : Type 0 where
  pub judged : Judged a b ns r
  pub accepts : (r ≡ Ok tt) ↔ Admits a b ns
  pub sound : r ≡ Ok tt → Contained a b

-- The laws of the verdict on a list.
told : (a b : Expr) (ns : List ℕ) (r : Result Unit RowsFault) → r ≡ verdict (list_fault a b ns) → Told a b ns r
told a b ns r e =
    let so : Judged a b ns r = subst (Judged a b ns) (sym e) (judged a b ns) in
    let admitted = λ (p : r ≡ Ok tt). subst (Judged a b ns) p so in
    record { judged = so; accepts = (admitted, λ h. e ∙ only a b ns (Ok tt) h); sound = λ p. sound a b (rows_of ns) (admitted p).keeps }

-- The verdict on the order, and then on the rules.
module _ (l l' : Layout) (ns : List ℕ) (m k : ℕ) (me : m ≡ places_of l) (ke : k ≡ places_of l') where
  abbrev a : Expr
  a = expression_of l

  abbrev b : Expr
  b = expression_of l'

  ill_is : ill m k ns ≡ ill (letter_count a) (letter_count b) ns
  ill_is = λ i. ill ((me ∙ (wired l).places) i) ((ke ∙ (wired l').places) i) ns

  refused : (o : Option ℕ) (x : Option RowsFault) (f : RowsFault) → Err f ≡ order_verdict o → Err f ≡ verdict (ill_fault o x)
  refused None x f e = absurd cc
  refused (Some i) x f e = e

  passed : (o : Option ℕ) (x : Option RowsFault) → Ok tt ≡ order_verdict o → verdict x ≡ verdict (ill_fault o x)
  passed None x e = refl
  passed (Some i) x e = absurd cc

  none_is : (o : Option ℕ) → Ok tt ≡ order_verdict o → o ≡ None
  none_is None e = refl
  none_is (Some i) e = absurd cc

  pub well : Ok tt ≡ order_verdict (ill m k ns) → ill (places_of l) (places_of l') ns ≡ None
  well e = (λ i. ill (sym me i) (sym ke i) ns) ∙ none_is (ill m k ns) e

  pub told_order : (f : RowsFault) → Err f ≡ order_verdict (ill m k ns) → (r : Result Unit RowsFault) → r ≡ Err f → Told a b ns r
  told_order f e r q =
      told a b ns r (q ∙ refused (ill m k ns) (rules_fault a b (rows_of ns)) f e ∙ ap (λ o. verdict (ill_fault o (rules_fault a b (rows_of ns)))) ill_is)

  pub told_rules : Ok tt ≡ order_verdict (ill m k ns) → (r : Result Unit RowsFault) → r ≡ verdict (rules_fault a b (rows_of ns)) → Told a b ns r
  told_rules e r q =
      told a b ns r (q ∙ passed (ill m k ns) (rules_fault a b (rows_of ns)) e ∙ ap (λ o. verdict (ill_fault o (rules_fault a b (rows_of ns)))) ill_is)
