-- What a script prints, line after line.
use Rattle.std.proofs.Common.{◌≡◌, ℕ, suc, ◌+◌, ◌<◌, Bool, true, false, eqb, List, [], ◌∷◌, ◌++◌, length, get_or, drop, sym, refl, ap, ◌∙◌, subst, append_assoc, append-nil, zero-add, add-one, drop-cons, arith, eqb-true}
use Rattle.std.proofs.Math.Seq.{drop-length}
use Rattle.std.proofs.lemmas.List.{get_or_read}
use Rattle.std.proofs.lemmas.List.FromFn.{get_or-enumerate_from, length-enumerate_from}
use Rattle.std.specs.List.{enumerate_from}
use Rattle.script.specs.Dialects.{Dialect}
use Rattle.script.specs.Running.{Tables, Ran, ended, then, Responded}

-- One text after another.
pub added : (out₀ out₁ out₂ a b : List ℕ) → out₁ ≡ out₀ ++ a → out₂ ≡ out₁ ++ b → out₂ ≡ out₀ ++ (a ++ b)
added out₀ out₁ out₂ a b p q = q ∙ (ap (λ o. o ++ b) p ∙ append_assoc out₀ a b)

pub only_text : (out₀ out₁ t : List ℕ) → out₀ ≡ [] → out₁ ≡ out₀ ++ t → out₁ ≡ t
only_text out₀ out₁ t p q = q ∙ ap (λ o. o ++ t) p

pub is_empty : (line : List ℕ) → eqb (length line) 0 ≡ true → line ≡ []
is_empty [] e = refl
is_empty (x ∷ l) e = let h = eqb-true (length (x ∷ l)) 0 e in absurd (omega arith)

pub is_some : (line : List ℕ) → eqb (length line) 0 ≡ false → line ≡ [] → ⊥
is_some line e q = let h : true ≡ false = sym (ap (λ l. eqb (length l) 0) q) ∙ e in cc

-- The line that is counted as the n-th, and its index.
pub counted : (ls : List (List ℕ)) (n i : ℕ) (l : List ℕ) → (n < length (enumerate_from 0 ls)) × (◌≡◌ {A = ℕ × List ℕ} (i, l) (get_or (enumerate_from 0 ls) n (i, l))) → (i ≡ n) × ((n < length ls) × (l ≡ get_or ls n []))
counted ls n i l h =
    let few : n < length ls = rw length-enumerate_from at h.0 in
    let is = h.1 ∙ get_or-enumerate_from 0 ls n (i, l) few in
    (ap (λ p. p.0) is ∙ zero-add n, (few, get_or_read ls n l few (ap (λ p. p.1) is) []))

-- The first n lines were answered by out: whatever the lines from there on print comes after it.
pub record Going (d : Dialect) (gives : ℕ → Bool) (ls : List (List ℕ)) (n : ℕ) (tables : Tables) (out : List ℕ) : Type 0 where
  pub on : (rest : List ℕ) → Ran d gives (suc n) (drop n ls) tables rest → Ran d gives 1 ls [] (out ++ rest)

pub begun : (d : Dialect) (gives : ℕ → Bool) (ls : List (List ℕ)) (out : List ℕ) (tables : Tables) → tables ≡ [] → out ≡ [] → Going d gives ls 0 tables out
begun d gives ls out tables e q =
    record { on = λ rest r. subst (λ o. Ran d gives 1 ls [] (o ++ rest)) (sym q) (subst (λ t. Ran d gives 1 ls t rest) e r) }

module _ (d : Dialect) (gives : ℕ → Bool) (ls : List (List ℕ)) (n : ℕ) (tables : Tables) (out : List ℕ) (g : Going d gives ls n tables out) where
  pub go_on : (line : List ℕ) → (n < length ls) × (line ≡ get_or ls n []) → (tables' : Tables) (out' bytes : List ℕ) → Responded d gives (n + 1) line tables tables' bytes → out' ≡ out ++ bytes
      → Going d gives ls (n + 1) tables' out'
  go_on line at tables' out' bytes told is =
      let cut : drop n ls ≡ line ∷ drop (n + 1) ls = rw add-one (drop-cons ls n [] at.0) ∙ ap (λ l. l ∷ drop (n + 1) ls) (sym at.1) in
      record {
        on = λ rest r.
            subst (λ o. Ran d gives 1 ls [] o) (sym (ap (λ o. o ++ rest) is ∙ append_assoc out bytes rest))
            (g.on (bytes ++ rest) (subst (λ ts. Ran d gives (suc n) ts tables (bytes ++ rest)) (sym cut)
            (then (subst (λ m. Responded d gives m line tables tables' bytes) (add-one n) told) (subst (λ m. Ran d gives (suc m) (drop (n + 1) ls) tables' rest) (add-one n) r))));
      }

  pub finished : n ≡ length ls → Ran d gives 1 ls [] out
  finished all =
      let none : drop n ls ≡ [] = ap (λ m. drop m ls) all ∙ drop-length ls in
      subst (λ o. Ran d gives 1 ls [] o) (append-nil out) (g.on [] (subst (λ ts. Ran d gives (suc n) ts tables []) (sym none) ended))
