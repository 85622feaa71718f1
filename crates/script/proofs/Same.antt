-- The tests on texts and tokens say whether two are one.
use Rattle.std.proofs.Common.{◌≡◌, ℕ, Bool, true, false, cond, List, Some, None, Err, Option, Result, MatchResult, refl, ap, eq-eqb, eqb-true}
use Rattle.std.specs.Option.{ok_or}
use Rattle.std.specs.Str.{bytes_eq}
use Rattle.std.proofs.lemmas.Slice.Eq.{bytes_eq-Decides}
use Rattle.script.specs.Tokens.{Token, sign, word, number, same}

pub text_true : (v w : List ℕ) → bytes_eq v w ≡ true → v ≡ w
text_true v w = (bytes_eq-Decides v w).0

pub same_refl : (t : Token) → same t t ≡ true
same_refl (sign b) = eq-eqb b b refl
same_refl (word w) = (bytes_eq-Decides w w).1 refl
same_refl (number n) = eq-eqb n n refl

pub same_true : (t u : Token) → same t u ≡ true → t ≡ u
same_true (sign a) (sign b) e = ap sign (eqb-true a b e)
same_true (sign a) (word w) e = cc
same_true (sign a) (number n) e = cc
same_true (word v) (sign b) e = cc
same_true (word v) (word w) e = ap word (text_true v w e)
same_true (word v) (number n) e = cc
same_true (number m) (sign b) e = cc
same_true (number m) (word w) e = cc
same_true (number m) (number n) e = ap number (eqb-true m n e)

-- Nothing is something: so anything holds.
pub never : {A B : Type 0} {x : B} → ◌≡◌ {A = Option B} None (Some x) → A
never e = cc

pub opposed : {A : Type 0} → true ≡ false → A
opposed e = cc

-- A test that let something through was true.
pub let_through : {A : Type 0} (b : Bool) (x y : A) → cond b (Some x) None ≡ Some y → (b ≡ true) × (x ≡ y)
let_through true x y e = (refl, cc)
let_through false x y e = never e

-- What holds of a value that may be missing, by its two cases.
pub or_else : {A E : Type 0} (o : Option A) (e : E) (r : Result A E) (P : A → Type 0) (Q : E → Type 0) → r ≡ ok_or o e → ((a : A) → o ≡ Some a → P a) → (o ≡ None → Q e) → MatchResult r P Q
or_else (Some a) e r P Q q found missing = rw q (found a refl)
or_else None e r P Q q found missing = rw q (missing refl)

-- Where such a value gave an error, it was missing.
pub missing : {A E : Type 0} (o : Option A) (e f : E) → Err f ≡ ok_or o e → (o ≡ None) × (e ≡ f)
missing (Some a) e f q = cc
missing None e f q = (refl, cc)
