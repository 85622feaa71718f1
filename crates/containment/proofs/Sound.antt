-- Rows that keep the rules show that every word of the earlier expression is a word of the later.
use Rattle.std.proofs.Common.{◌≡◌, ℕ, true, List, [], ◌∷◌, sym, ap, ◌∙◌, inl, inr}
use Rattle.expression.specs.Expressions.{Expr}
use Rattle.expression.specs.Places.{finishes}
use Rattle.expression.proofs.PlaceTheorems.{automaton, finishing}
use Rattle.containment.specs.Rows.{Row, row, Among}
use Rattle.containment.specs.Rules.{Begins, Keeps}
use Rattle.containment.specs.Theorems.{Sound}

-- Whatever a row's place can finish, one of its set can.
module _ (a b : Expr) (rows : List Row) (k : Keeps a b rows) where
  on : (w : List ℕ) (r : Row) → Among r rows → finishes a w r.place ≡ true → (s : ℕ) × Among s r.set × (finishes b w s ≡ true)
  on [] r m e = k.ends r m e
  on (c ∷ w) r m e =
      let (f, fol, is, fin) = (automaton.goes_on a c w r.place).0 e in
      let (o, mo, sv) = k.goes_on r m f fol in
      let (q, mq, fq) = on w o mo (ap (finishes a w) sv.place ∙ fin) in
      let (s, ms, fs) = sv.reached q mq in
      (s, ms, (automaton.goes_on b c w s).1 (q, fs, sv.coded q mq ∙ is, fq))

start : (rows : List Row) → Begins rows → Among (row 0 (0 ∷ [])) rows
start [] h = absurd h
start (r ∷ rows) h = inl (λ i. row (sym h.0 i) (sym h.1 i))

pub sound : Sound
sound a b rows k w word =
    let (s, m, f) = on a b rows k w (row 0 (0 ∷ [])) (start rows k.begins) ((finishing.start a w).1 word) in
    elim m [ inl e ↦ (finishing.start b w).0 (ap (finishes b w) (sym e) ∙ f) | inr z ↦ absurd z ]
