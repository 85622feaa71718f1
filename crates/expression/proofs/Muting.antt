-- The first node whose code gives no letter.
use Rattle.std.proofs.Common.{◌≡◌, ℕ, zero, suc, ◌+◌, ◌<◌, ◌≤◌, Bool, true, false, cond, ltb, not, List, [], ◌∷◌, length, get_or, Some, None, Option, sym, refl, ap, ◌∙◌, arith, ltb-false}
use borrow.Author.Tests.{clash}
use Rattle.std.proofs.lemmas.List.Quantifiers.{position-Some}
use Rattle.std.specs.List.{position, position_or_len}
use Rattle.std.specs.Option.{unwrap_or}
use Rattle.expression.specs.declared.raw.RawNode.{RawNode}
use Rattle.expression.specs.declared.raw.RawNode.TheVariants.{Letter, Empty, Pair, Or, Star, Unknown}
use Rattle.expression.specs.Checking.{mute}
use Rattle.expression.specs.Tables.{raw}

-- The first place of which a test holds, or the end.
record FirstPlace {X : Type 0} (p : X → Bool) (d : X) (xs : List X) (n : ℕ) : Type 0 where
  within : n ≤ length xs
  before : (k : ℕ) → k < n → p (get_or xs k d) ≡ false
  here : n < length xs → p (get_or xs n d) ≡ true

first_place : {X : Type 0} (p : X → Bool) (d : X) (xs : List X) → FirstPlace p d xs (position_or_len p xs)
first_place p d [] = record { within = omega arith; before = λ k l. absurd (omega arith); here = λ l. absurd (omega arith) }
first_place {X} p d (x ∷ xs) = by (p x) refl (first_place p d xs)
  where
    by : (b : Bool) → p x ≡ b → FirstPlace p d xs (position_or_len p xs) → FirstPlace p d (x ∷ xs) (cond (not b) (1 + position_or_len p xs) 0)
    by true e r = record { within = omega arith; before = λ k l. absurd (omega arith); here = λ l. e }
    by false e r = record {
      within = omega (arith, r.within);
      before = before;
      here = λ l. let z : 1 + position_or_len p xs ≡ suc (position_or_len p xs) = omega arith in rw z (r.here (omega arith));
    }
      where
        before : (k : ℕ) → k < 1 + position_or_len p xs → p (get_or (x ∷ xs) k d) ≡ false
        before zero l = e
        before (suc k) l = r.before k (omega arith)

-- Node m is the first whose code gives no letter, or the nodes end there.
pub record FirstMute (give : ℕ → Bool) (ts : List RawNode) (m : ℕ) : Type 0 where
  pub within : m ≤ length ts
  pub before : (j c : ℕ) → j < m → raw ts j ≡ Letter c → give c ≡ true
  pub mute : m < length ts → (c : ℕ) × (raw ts m ≡ Letter c) × (give c ≡ false)

gives_one : (give : ℕ → Bool) (r : RawNode) (c : ℕ) → mute give r ≡ false → r ≡ Letter c → give c ≡ true
gives_one give r c h e = by (give c) (rw e at h)
  where
    by : (b : Bool) → not b ≡ false → b ≡ true
    by true h = refl
    by false h = absurd (clash (sym h))

gives_none : (give : ℕ → Bool) (r : RawNode) → mute give r ≡ true → (c : ℕ) × (r ≡ Letter c) × (give c ≡ false)
gives_none give (Letter c) h = (c, refl, by (give c) h)
  where
    by : (b : Bool) → not b ≡ true → b ≡ false
    by true h = absurd (clash h)
    by false h = refl
gives_none give Empty h = absurd (clash h)
gives_none give Pair h = absurd (clash h)
gives_none give Or h = absurd (clash h)
gives_none give Star h = absurd (clash h)
gives_none give (Unknown k) h = absurd (clash h)

-- The place that `position` gives, or the end if it gives none.
pub first_mute : (give : ℕ → Bool) (ts : List RawNode) → FirstMute give ts (unwrap_or (position (mute give) ts) (length ts))
first_mute give ts = by (ltb (position_or_len (mute give) ts) (length ts)) refl
  where
    r : FirstPlace (mute give) (Unknown 0) ts (position_or_len (mute give) ts)
    r = first_place (mute give) (Unknown 0) ts

    at : (n : ℕ) → n ≡ position_or_len (mute give) ts → FirstMute give ts n
    at n e = rw e (record {
      within = r.within;
      before = λ j c l q. gives_one give (raw ts j) c (r.before j l) q;
      mute = λ l. gives_none give (raw ts (position_or_len (mute give) ts)) (r.here l);
    })

    by : (b : Bool) → ltb (position_or_len (mute give) ts) (length ts) ≡ b → FirstMute give ts (unwrap_or (cond b (Some (position_or_len (mute give) ts)) None) (length ts))
    by true e = at _ refl
    by false e = at (length ts) (let h = ltb-false _ _ e in omega (arith, r.within))

module _ (give : ℕ → Bool) (ts : List RawNode) (o : Option ℕ) (found : o ≡ position (mute give) ts) (m : ℕ) (up_to : m ≡ unwrap_or o (length ts)) where
  pub first_at : FirstMute give ts m
  first_at = rw (up_to, found) (first_mute give ts)

  pub mute_at : (i : ℕ) → o ≡ Some i → (m ≡ i) × (i < length ts)
  mute_at i e = (up_to ∙ ap (λ p. unwrap_or p (length ts)) e, (position-Some (mute give) ts i (Unknown 0) (sym found ∙ e)).0)

pub mute_nowhere : (n m : ℕ) (o : Option ℕ) → m ≡ unwrap_or o n → o ≡ None → m ≡ n
mute_nowhere n m o e f = e ∙ ap (λ p. unwrap_or p n) f
