-- Lists of letters, with and without members.
use Rattle.std.proofs.Common.{◌≡◌, ℕ, Bool, true, false, List, [], ◌∷◌, ◌++◌, sym, refl, ap, ◌∙◌, arith}
use borrow.Author.Tests.{clash}
use Rattle.expression.specs.Trees.{nonempty}

pub cons≢nil : {a : ℕ} {w : List ℕ} → a ∷ w ≡ [] → ⊥
cons≢nil p = let z : ◌≡◌ {A = ℕ} 0 1 = cc in omega arith

pub cons_head : {a b : ℕ} {s s' : List ℕ} → a ∷ s ≡ b ∷ s' → a ≡ b
cons_head p = cc

pub cons_tail : {a b : ℕ} {s s' : List ℕ} → a ∷ s ≡ b ∷ s' → s ≡ s'
cons_tail p = cc

pub append_nils : (v w : List ℕ) → v ++ w ≡ [] → (v ≡ []) × (w ≡ [])
append_nils [] w p = (refl, p)
append_nils (a ∷ v) w p = absurd (cons≢nil p)

pub nonempty_left : (v w : List ℕ) → nonempty v ≡ true → nonempty (v ++ w) ≡ true
nonempty_left [] w p = absurd (clash p)
nonempty_left (a ∷ v) w p = refl

pub nonempty_right : (v w : List ℕ) → nonempty w ≡ true → nonempty (v ++ w) ≡ true
nonempty_right [] w p = p
nonempty_right (a ∷ v) w p = refl

pub no_letters : (v : List ℕ) → nonempty v ≡ false → v ≡ []
no_letters [] p = refl
no_letters (a ∷ v) p = absurd (clash (sym p))

pub nil_empty : {v : List ℕ} → v ≡ [] → nonempty v ≡ false
nil_empty p = ap nonempty p

pub nil_nonempty : {v : List ℕ} → v ≡ [] → nonempty v ≡ true → ⊥
nil_nonempty p q = clash (sym (nil_empty p) ∙ q)

pub alike : {b c d : Bool} → b ≡ d → c ≡ d → b ≡ c
alike p q = p ∙ sym q
