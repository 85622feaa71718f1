-- What is told of letters whose work is done.
use Rattle.std.proofs.Common.{◌≡◌, ℕ, ◌+◌, ◌*◌, ◌<◌, ◌≤◌, true, false, ltb, List, [], length, get_or, Some, None, Option, Ok, Err, sym, refl, ap, ◌∙◌, subst, arith, le-ltb, lt-ltb}
use borrow.Author.Tests.{clash}
use Rattle.expression.specs.Expressions.{Expr}
use Rattle.expression.specs.Trees.{Tree}
use Rattle.expression.specs.Turns.{turns}
use Rattle.expression.specs.Places.{letter_count, finishes}
use Rattle.expression.specs.Search.{first_tree}
use Rattle.expression.proofs.FirstTree.{first_some, first_none, some_first, none_first}
use Rattle.expression.proofs.PlaceTheorems.{finishing}
use Rattle.expression.proofs.Writing.{written_all}
use Rattle.matching.specs.declared.fault.MatchFault.TheVariants.{ShortWork, NoWord, ShortTurns}
use Rattle.matching.specs.Outcomes.{longest, Reading, OneReading, Outcome, refused, told, IsOutcome}
use Rattle.expression.specs.Layouts.{expression_of}
use Rattle.expression.specs.declared.layout.Layout.{Layout}
use Rattle.matching.specs.Holding.{whole}
use Rattle.matching.proofs.Holding.{layout_whole}
use Rattle.matching.specs.Rows.{rows, work_size}
use Rattle.matching.specs.Written.{written}
use Rattle.matching.specs.Passes.{usable}
use Rattle.matching.specs.Walked.{Tabled, Walked}
use Rattle.matching.proofs.RowLaws.{usable_right, rows_begin}

pub one_reading : OneReading
one_reading = record { some_reading = λ e w. one e w (first_tree e w) refl; same_reading = λ e w o o' r r'. found e w o r ∙ sym (found e w o' r') }
  where
    one : (e : Expr) (w : List ℕ) (o : Option Tree) → first_tree e w ≡ o → (o : Option Tree) × Reading e w o
    one e w None q = (None, first_none e w q)
    one e w (Some t) q = (Some t, first_some e w t q)

    found : (e : Expr) (w : List ℕ) (o : Option Tree) → Reading e w o → o ≡ first_tree e w
    found e w None r = sym (none_first e w r)
    found e w (Some t) r = sym (some_first e w t r)

module _ {e : Expr} {w work : List ℕ} (table : Tabled e w work) where
  starts : usable work 0 ≡ finishes e w 0
  starts = usable_right e w work (λ p h. ap (λ (l : List ℕ). get_or l p 0) table.is ∙ rows_begin e w table.rest p h) 0 (omega arith)

  pub alive : usable work 0 ≡ true → finishes e w 0 ≡ true
  alive h = sym starts ∙ h

  pub told_none : {n : ℕ} → length w ≡ n → usable work 0 ≡ false → (turned : List ℕ) (o : Option Tree) → Reading e w o → record { answer = Err (NoWord n); work = work; turned = turned } ≡ told w o work turned
  told_none q h turned None r = rw q
  told_none q h turned (Some t) r = absurd (clash (sym h ∙ starts ∙ (finishing.start e w).1 (t, r.parse)))

  -- The turns were counted, with no room for them.
  module _ (h : usable work 0 ≡ true) (count : ℕ) (b : List ℕ) (counted : Walked e w count [] b) (turned : List ℕ) where
    pub told_short : length turned < count → (o : Option Tree) → Reading e w o → record { answer = Err (ShortTurns count); work = work; turned = turned } ≡ told w o work turned
    told_short l None r = absurd (r ((finishing.start e w).0 (alive h)))
    told_short l (Some t) r =
        let q = (counted t r).count in
        let s : ltb (length turned) (length (turns t)) ≡ true = lt-ltb (length turned) (length (turns t)) (omega arith) in
        rw (s, q)

    pub told_all : count ≤ length turned → (n : ℕ) (new : List ℕ) → Walked e w n turned new → (o : Option Tree) → Reading e w o → record { answer = Ok n; work = work; turned = new } ≡ told w o work turned
    told_all l n new walked None r = absurd (r ((finishing.start e w).0 (alive h)))
    told_all l n new walked (Some t) r =
        let q = (counted t r).count in
        let s : ltb (length turned) (length (turns t)) ≡ false = le-ltb (length turned) (length (turns t)) (omega arith) in
        let x = walked t r in
        rw (s, x.count, x.buffer, written_all (turns t) turned (omega arith))

-- What is answered to n letters under a layout, whose rows have k bytes.
module _ (l : Layout) (w work turned : List ℕ) {n : ℕ} (count : length w ≡ n) (h : n ≤ longest) {k : ℕ} (wide : k ≡ letter_count (whole l) + 1) where
  few : ltb longest (length w) ≡ false
  few = le-ltb longest (length w) (omega arith)

  size_is : work_size (expression_of l) w ≡ (n + 1) * k
  size_is = rw (← layout_whole l, count, wide)

  pub short_work : length work < (n + 1) * k → IsOutcome (expression_of l) w work turned (refused (ShortWork ((n + 1) * k)) work turned)
  short_work s o r = let b : ltb (length work) ((n + 1) * k) ≡ true = lt-ltb (length work) ((n + 1) * k) s in rw (few, size_is, b)

  pub told_of : (n + 1) * k ≤ length work → (left : List ℕ) → left ≡ written (rows (whole l) w) work → (x : Outcome) → ((o : Option Tree) → Reading (whole l) w o → x ≡ told w o left turned)
      → IsOutcome (expression_of l) w work turned x
  told_of s left f x told-is o r =
      let b : ltb (length work) ((n + 1) * k) ≡ false = le-ltb (length work) ((n + 1) * k) s in
      told-is o (subst (λ (e : Expr). Reading e w o) (sym (layout_whole l)) r) ∙ ap (λ (u : List ℕ). told w o u turned) f
      ∙ ap (λ (e : Expr). told w o (written (rows e w) work) turned) (layout_whole l) ∙ rw (few, size_is, b)
