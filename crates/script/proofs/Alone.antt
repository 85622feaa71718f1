-- A line of a text, taken for a text, is its own first line.
use Rattle.std.proofs.Common.{◌≡◌, ℕ, zero, suc, Bool, true, false, eqb, List, [], ◌∷◌, slice_index_or, refl, ap}
use Rattle.text.specs.Lines.{lines, lengthened}
use Rattle.script.specs.Lines.{numbered}

abbrev at : List (List ℕ) → ℕ → List ℕ
at ls n = slice_index_or ls n []

-- The first of lines that are one byte longer in front.
longer : (b : ℕ) (l : List ℕ) (ms : List (List ℕ)) → at ms 0 ≡ l → at (lengthened b ms) 0 ≡ b ∷ l
longer b l [] e = ap (λ k. b ∷ k) e
longer b l (m ∷ ms) e = ap (λ k. b ∷ k) e

fed : (b : ℕ) (l : List ℕ) → eqb b 10 ≡ false → at (lines l) 0 ≡ l → at (lines (b ∷ l)) 0 ≡ b ∷ l
fed b l d e = rw d (longer b l (lines l) e)

grown : (b : ℕ) (ls : List (List ℕ)) → eqb b 10 ≡ false → ((n : ℕ) → at (lines (at ls n)) 0 ≡ at ls n) → (n : ℕ) → at (lines (at (lengthened b ls) n)) 0 ≡ at (lengthened b ls) n
grown b [] d h zero = fed b [] d refl
grown b [] d h (suc n) = refl
grown b (l ∷ ls) d h zero = fed b l d (h 0)
grown b (l ∷ ls) d h (suc n) = h (suc n)

alone : (text : List ℕ) (n : ℕ) → at (lines (at (lines text) n)) 0 ≡ at (lines text) n
alone [] n = refl
alone (b ∷ bs) n = by (eqb b 10) refl (λ k. alone bs k) n
  where
    by : (d : Bool) → eqb b 10 ≡ d → ((k : ℕ) → at (lines (at (lines bs) k)) 0 ≡ at (lines bs) k) → (n : ℕ) → at (lines (at (lines (b ∷ bs)) n)) 0 ≡ at (lines (b ∷ bs)) n
    by true e h zero = rw e refl
    by true e h (suc n) = rw e (h n)
    by false e h n = rw e (grown b (lines bs) e h n)

line_alone : (text : List ℕ) (n : ℕ) → numbered (lines (numbered (lines text) n)) 1 ≡ numbered (lines text) n
line_alone text zero = refl
line_alone text (suc n) = alone text n

pub shown : (text line : List ℕ) (n : ℕ) → line ≡ numbered (lines text) n → numbered (lines line) 1 ≡ numbered (lines text) n
shown text line n e = rw e (line_alone text n)
