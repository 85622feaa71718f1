-- A lodging has one answer.
use Rattle.std.proofs.Common.{◌≡◌, ℕ, Bool, List, sym, refl, ap, ◌∙◌, arith}
use Rattle.expression.proofs.Judging.{apart, same_fault}
use Rattle.expression.specs.declared.raw.RawNode.{RawNode}
use Rattle.register.specs.Lodging.{Lodged, Cause, OneAnswer}
use Rattle.register.specs.declared.refusal.Refusal.{Refusal}
use Rattle.register.specs.declared.refusal.Refusal.TheVariants.{Table, Full, NoMemory}

module _ (gives : ℕ → Bool) (before : List (List RawNode)) (t : List RawNode) where
  one_number : (n m : ℕ) (after after' : List (List RawNode)) → Lodged gives before t n after → Lodged gives before t m after' → (n ≡ m) × (after ≡ after')
  one_number n m after after' p q = (p.placed.number ∙ sym q.placed.number, p.placed.tables ∙ sym q.placed.tables)

  not_both : (n : ℕ) (e : Refusal) (after : List (List RawNode)) → Lodged gives before t n after → Cause gives before t e → e ≡ NoMemory
  not_both n (Table f) after p c = absurd (apart gives t p.good.0 p.good.1 f c)
  not_both n Full after p c = absurd (let h = p.placed.room in let k = c.1 in omega arith)
  not_both n NoMemory after p c = refl

  one_cause : (e f : Refusal) → Cause gives before t e → Cause gives before t f → (e ≡ NoMemory → ⊥) → (f ≡ NoMemory → ⊥) → e ≡ f
  one_cause (Table x) (Table y) p q a b = ap Table (same_fault gives t x y p q)
  one_cause (Table x) Full p q a b = absurd (apart gives t q.0.0 q.0.1 x p)
  one_cause (Table x) NoMemory p q a b = absurd (b refl)
  one_cause Full (Table y) p q a b = absurd (apart gives t p.0.0 p.0.1 y q)
  one_cause Full Full p q a b = refl
  one_cause Full NoMemory p q a b = absurd (b refl)
  one_cause NoMemory f p q a b = absurd (a refl)

pub one_answer : OneAnswer
one_answer gives before t =
    record {
      one_number = one_number gives before t;
      apart = λ n e after after' p q. not_both gives before t n e after p q.cause;
      one_refusal = λ e f after after' p q. one_cause gives before t e f p.cause q.cause;
    }
