-- One form, one fault.
use Rattle.std.proofs.Common.{◌≡◌, ℕ, List, [], ◌∷◌, ◌++◌, map, Some, sym, refl, ap, ◌∙◌, subst, append_assoc, arith}
use Rattle.script.specs.Dialects.{Dialect}
use Rattle.script.specs.Faults.{place}
use Rattle.script.specs.Forms.{Brackets, mark, empty, pair, or, star, lodge, bracketed}
use Rattle.script.specs.Law.{Wrong, misfit, too_large, too_many, no_letter, OneFault, OneForm}
use Rattle.script.specs.Machine.{name_of}
use Rattle.script.specs.Reading.{name_bytes}
use Rattle.script.specs.Tokens.{Token, sign, word, number, opening, closing, finish, Placed, bare}
use Rattle.script.specs.declared.fault.FormFault.{FormFault}
use Rattle.script.specs.declared.name.Name.{Name}
use Rattle.script.specs.declared.name.Name.TheVariants.{Mark, Nothing, Pair, Or, Star}
use Rattle.script.proofs.Wide.{name_again}

-- The name of an expression, and a number for it.
abbrev name : Brackets → Name
name (mark ns) = Mark
name empty = Nothing
name (pair e f) = Pair
name (or e f) = Or
name (star e) = Star

abbrev code : Name → ℕ
code Mark = 0
code Nothing = 1
code Pair = 2
code Or = 3
code Star = 4

-- The bytes of the second token.
abbrev bytes_of : Token → List ℕ
bytes_of (sign b) = []
bytes_of (word w) = w
bytes_of (number n) = []

abbrev second : List Token → List ℕ
second [] = []
second (t ∷ []) = []
second (t ∷ (u ∷ ts)) = bytes_of u

begins_so : (d : Dialect) (e : Brackets) (s : List Token) → second (bracketed d e ++ s) ≡ name_bytes d (name e)
begins_so d (mark ns) s = refl
begins_so d empty s = refl
begins_so d (pair e f) s = refl
begins_so d (or e f) s = refl
begins_so d (star e) s = refl

same_name : (d : Dialect) (e f : Brackets) (s t : List Token) → bracketed d e ++ s ≡ bracketed d f ++ t → code (name e) ≡ code (name f)
same_name d e f s t q =
    let z : name_bytes d (name e) ≡ name_bytes d (name f) = sym (begins_so d e s) ∙ (ap second q ∙ begins_so d f t) in
    let y : Some (name e) ≡ Some (name f) = sym (name_again d (name e)) ∙ (ap (name_of d) z ∙ name_again d (name f)) in
    let x : name e ≡ name f = cc in ap code x

-- The numbers of a mark end at its bracket.
same_numbers : (ns ms : List ℕ) (s t : List Token) → map number ns ++ (closing ∷ s) ≡ map number ms ++ (closing ∷ t) → (ns ≡ ms) × (s ≡ t)
same_numbers [] [] s t q = (refl, cc)
same_numbers [] (m ∷ ms) s t q = cc
same_numbers (n ∷ ns) [] s t q = cc
same_numbers (n ∷ ns) (m ∷ ms) s t q =
    let h : n ≡ m = cc in let x = same_numbers ns ms s t (cc) in let x₀ = x.0 in (cc, x.1)

-- What follows one part begins alike.
abbrev First : Dialect → Brackets → Type 0
First d e = (f : Brackets) (s t : List Token) → bracketed d e ++ s ≡ bracketed d f ++ t → (e ≡ f) × (s ≡ t)

same_one : (d : Dialect) (a c : Brackets) (s t : List Token) → First d a → (bracketed d a ++ closing ∷ []) ++ s ≡ (bracketed d c ++ closing ∷ []) ++ t → (a ≡ c) × (s ≡ t)
same_one d a c s t x z =
    let y = x c _ _ (sym (append_assoc (bracketed d a) (closing ∷ []) s) ∙ (z ∙ append_assoc (bracketed d c) (closing ∷ []) t)) in
    let y₁ = y.1 in (y.0, cc)

same_two : (d : Dialect) (a b c e : Brackets) (s t : List Token) → First d a → First d b
    → (bracketed d a ++ (bracketed d b ++ closing ∷ [])) ++ s ≡ (bracketed d c ++ (bracketed d e ++ closing ∷ [])) ++ t → (a ≡ c) × (b ≡ e) × (s ≡ t)
same_two d a b c e s t x y z =
    let p = x c _ _ (sym (append_assoc (bracketed d a) (bracketed d b ++ closing ∷ []) s) ∙ (z ∙ append_assoc (bracketed d c) (bracketed d e ++ closing ∷ []) t)) in
    let r = same_one d b e s t y p.1 in (p.0, r.0, r.1)

-- What is read first is one expression.
same_first : (d : Dialect) (e : Brackets) → First d e
same_first d (mark ns) (mark ms) s t q =
    let z : (map number ns ++ closing ∷ []) ++ s ≡ (map number ms ++ closing ∷ []) ++ t = cc in
    let x = same_numbers ns ms s t (sym (append_assoc (map number ns) (closing ∷ []) s) ∙ (z ∙ append_assoc (map number ms) (closing ∷ []) t)) in
    (ap mark x.0, x.1)
same_first d (mark ns) empty s t q = absurd (omega (arith, same_name d (mark ns) empty s t q))
same_first d (mark ns) (pair c e) s t q = absurd (omega (arith, same_name d (mark ns) (pair c e) s t q))
same_first d (mark ns) (or c e) s t q = absurd (omega (arith, same_name d (mark ns) (or c e) s t q))
same_first d (mark ns) (star c) s t q = absurd (omega (arith, same_name d (mark ns) (star c) s t q))
same_first d empty (mark ms) s t q = absurd (omega (arith, same_name d empty (mark ms) s t q))
same_first d empty empty s t q = (refl, cc)
same_first d empty (pair c e) s t q = absurd (omega (arith, same_name d empty (pair c e) s t q))
same_first d empty (or c e) s t q = absurd (omega (arith, same_name d empty (or c e) s t q))
same_first d empty (star c) s t q = absurd (omega (arith, same_name d empty (star c) s t q))
same_first d (pair a b) (mark ms) s t q = absurd (omega (arith, same_name d (pair a b) (mark ms) s t q))
same_first d (pair a b) empty s t q = absurd (omega (arith, same_name d (pair a b) empty s t q))
same_first d (pair a b) (pair c e) s t q =
    let z : (bracketed d a ++ (bracketed d b ++ closing ∷ [])) ++ s ≡ (bracketed d c ++ (bracketed d e ++ closing ∷ [])) ++ t = cc in
    let x = same_two d a b c e s t (same_first d a) (same_first d b) z in let x₀ = x.0 in let x₁ = x.1 in (cc, x.2)
same_first d (pair a b) (or c e) s t q = absurd (omega (arith, same_name d (pair a b) (or c e) s t q))
same_first d (pair a b) (star c) s t q = absurd (omega (arith, same_name d (pair a b) (star c) s t q))
same_first d (or a b) (mark ms) s t q = absurd (omega (arith, same_name d (or a b) (mark ms) s t q))
same_first d (or a b) empty s t q = absurd (omega (arith, same_name d (or a b) empty s t q))
same_first d (or a b) (pair c e) s t q = absurd (omega (arith, same_name d (or a b) (pair c e) s t q))
same_first d (or a b) (or c e) s t q =
    let z : (bracketed d a ++ (bracketed d b ++ closing ∷ [])) ++ s ≡ (bracketed d c ++ (bracketed d e ++ closing ∷ [])) ++ t = cc in
    let x = same_two d a b c e s t (same_first d a) (same_first d b) z in let x₀ = x.0 in let x₁ = x.1 in (cc, x.2)
same_first d (or a b) (star c) s t q = absurd (omega (arith, same_name d (or a b) (star c) s t q))
same_first d (star a) (mark ms) s t q = absurd (omega (arith, same_name d (star a) (mark ms) s t q))
same_first d (star a) empty s t q = absurd (omega (arith, same_name d (star a) empty s t q))
same_first d (star a) (pair c e) s t q = absurd (omega (arith, same_name d (star a) (pair c e) s t q))
same_first d (star a) (or c e) s t q = absurd (omega (arith, same_name d (star a) (or c e) s t q))
same_first d (star a) (star c) s t q =
    let z : (bracketed d a ++ closing ∷ []) ++ s ≡ (bracketed d c ++ closing ∷ []) ++ t = cc in
    let x = same_one d a c s t (same_first d a) z in (ap star x.0, x.1)

pub one_form : OneForm
one_form d (lodge e) (lodge f) q = ap lodge (same_first d e f (closing ∷ (finish ∷ [])) (closing ∷ (finish ∷ [])) (cc)).0

-- Tokens of two sorts are not one.
clash : {A : Type 0} {t u v : Token} → t ≡ u → t ≡ v → (u ≡ v → ⊥) → A
clash p q n = absurd (n (sym p ∙ q))

number_sign : (n b : ℕ) → number n ≡ sign b → ⊥
number_sign n b e = cc

abbrev byte : Token → ℕ
byte (sign b) = b
byte (word w) = 0
byte (number n) = 0

opening_closing : opening ≡ closing → ⊥
opening_closing e = omega (arith, ap byte e)

-- A token is wrong in one way.
one_wrong : {d : Dialect} {a : List Token} {t : Token} {p : ℕ} {f g : FormFault} → Wrong d a t p f → Wrong d a t p g → f ≡ g
one_wrong (misfit x y) (misfit x' y') = refl
one_wrong (misfit x y) (too_large n e l b) = absurd (y b)
one_wrong (misfit x y) (too_many us e b q c) = absurd (y b)
one_wrong (misfit x y) (no_letter us ns e b q l c) = refl
one_wrong (too_large n e l b) (misfit x y) = absurd (y b)
one_wrong (too_large n e l b) (too_large n' e' l' b') = refl
one_wrong (too_large n e l b) (too_many us e' b' q c) = clash e e' (number_sign n 40)
one_wrong (too_large n e l b) (no_letter us ns e' b' q l' c) = clash e e' (number_sign n 41)
one_wrong (too_many us e b q c) (misfit x y) = absurd (y b)
one_wrong (too_many us e b q c) (too_large n e' l b') = clash e' e (number_sign n 40)
one_wrong (too_many us e b q c) (too_many us' e' b' q' c') = refl
one_wrong (too_many us e b q c) (no_letter us' ns e' b' q' l c') = clash e e' opening_closing
one_wrong (no_letter us ns e b q l c) (misfit x y) = refl
one_wrong (no_letter us ns e b q l c) (too_large n e' l' b') = clash e' e (number_sign n 41)
one_wrong (no_letter us ns e b q l c) (too_many us' e' b' q' c') = clash e' e opening_closing
one_wrong (no_letter us ns e b q l c) (no_letter us' ns' e' b' q' l' c') = refl

-- Two splits of one list: the same, or the first part of one is longer.
pub data Splits {A : Type 0} (a : List A) (x : A) (c : List A) (y : A) : Type 0 where
  level : a ≡ c → x ≡ y → Splits a x c y
  longer : (v : List A) → a ≡ c ++ y ∷ v → Splits a x c y
  shorter : (v : List A) → c ≡ a ++ x ∷ v → Splits a x c y

splits : {A : Type 0} (a b c d : List A) (x y : A) → a ++ x ∷ b ≡ c ++ y ∷ d → Splits a x c y
splits [] b [] d x y q = level refl (cc)
splits [] b (z ∷ c) d x y q = let h : z ≡ x = cc in shorter c (cc)
splits (z ∷ a) b [] d x y q = let h : z ≡ y = cc in longer a (cc)
splits {A} (z ∷ a) b (w ∷ c) d x y q = let h : z ≡ w = cc in go h (splits a b c d x y (cc))
  where
    go : z ≡ w → Splits a x c y → Splits (z ∷ a) x (w ∷ c) y
    go h (level p r) = level (cc) r
    go h (longer v p) = longer v (cc)
    go h (shorter v p) = shorter v (cc)

pub one_fault : OneFault
one_fault d ts f g l r = go (splits l.before l.after r.before r.after _ _ (sym l.split ∙ r.split))
  where
    go : Splits l.before (record { token = l.token; place = place f }) r.before (record { token = r.token; place = place g }) → f ≡ g
    go (level e q) =
        let t : l.token ≡ r.token = ap bare q in
        let p : place f ≡ place g = ap (λ (z : Placed). z.place) q in
        let w : Wrong d (map bare r.before) r.token (place g) f =
        subst (λ z. Wrong d (map bare z) r.token (place g) f) e
        (subst (λ z. Wrong d (map bare l.before) z (place g) f) t (subst (λ z. Wrong d (map bare l.before) l.token z f) p l.wrong)) in
        one_wrong w r.wrong
    go (longer v e) = absurd (l.clean r.before v (record { token = r.token; place = place g }) g e r.wrong)
    go (shorter v e) = absurd (r.clean l.before v (record { token = l.token; place = place f }) f e l.wrong)
