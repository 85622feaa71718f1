-- Trees of e ∷ k of which the first has letters: how those of an expression are made from those of its parts, and that this keeps the order.
use Rattle.std.proofs.Common.{◌≡◌, ℕ, Bool, true, false, ◌⊎◌, List, [], ◌∷◌, sym, refl, ap, ◌∙◌, inl, inr, append_assoc}
use borrow.Author.Tests.{clash}
use Rattle.expression.specs.Expressions.{Expr, pair, or, star}
use Rattle.expression.specs.Trees.{Tree, both, left, right, more, is_both, is_left, is_right, is_end, is_more, spells, has_letters}
use Rattle.expression.specs.Words.{Parse}
use Rattle.expression.specs.Order.{Before, by_first, by_second, by_left, by_right, by_member, by_rest}
use Rattle.expression.specs.Tuples.{is_cons, spell_all, Lex, here, there, on_first, merge}
use Rattle.expression.specs.Routes.{Begins, begins}
use Rattle.expression.proofs.Letters.{nonempty_left, nonempty_right, no_letters, nil_empty, alike}
use Rattle.expression.proofs.RankLaws.{letters_before, left_before, parts_before}
use Rattle.expression.proofs.Firsts.{Image, Image2}

-- A pair and a list have letters where the first part has.
module _ (t u : Tree) where
  first_letters : has_letters t ≡ true → has_letters (both t u) ≡ true
  first_letters x = nonempty_left (spells t) (spells u) x

  second_letters : has_letters u ≡ true → has_letters (both t u) ≡ true
  second_letters x = nonempty_right (spells t) (spells u) x

-- Pairs.
module _ {e f : Expr} {k : List Expr} {w : List ℕ} where
  pub to_first : (u : List Tree) → Begins e (f ∷ k) w u → Begins (pair e f) k w (merge both u)
  to_first u (begins {t = t} h x (is_cons {t = t'} {u = r} h' hs) p) =
      begins (is_both h h') (first_letters t t' x) hs (append_assoc (spells t) (spells t') (spell_all r) ∙ p)

  pub to_second : (s : Tree) (u : List Tree) → Parse e [] s → Begins f k w u → Begins (pair e f) k w (on_first (both s) u)
  to_second s u b (begins {t = t} h x hs p) = begins (is_both b.is h) (second_letters s t x) hs (rw b.spelt p)

  pub from_pair : (v : List Tree) → Begins (pair e f) k w v → Image (merge both) (Begins e (f ∷ k) w) v ⊎ Image2 (λ s. on_first (both s)) (Parse e []) (Begins f k w) v
  from_pair v (begins {u = r} (is_both {t = t} {u = t'} h h') x hs p) = go (has_letters t) refl
    where
      go : (b : Bool) → has_letters t ≡ b → Image (merge both) (Begins e (f ∷ k) w) (both t t' ∷ r) ⊎ Image2 (λ s. on_first (both s)) (Parse e []) (Begins f k w) (both t t' ∷ r)
      go true q = inl (t ∷ (t' ∷ r), begins h q (is_cons h' hs) (sym (append_assoc (spells t) (spells t') (spell_all r)) ∙ p), refl)
      go false q =
          let n : spells t ≡ [] = no_letters (spells t) q in
          inr (t, t' ∷ r, record { is = h; spelt = n }, begins h' (rw n at x) hs (rw n at p), refl)

-- Ors.
module _ {e f : Expr} {k : List Expr} {w : List ℕ} where
  pub to_left : (u : List Tree) → Begins e k w u → Begins (or e f) k w (on_first left u)
  to_left u (begins h x hs p) = begins (is_left h) x hs p

  pub to_right : (u : List Tree) → Begins f k w u → Begins (or e f) k w (on_first right u)
  to_right u (begins h x hs p) = begins (is_right h) x hs p

  pub from_or : (v : List Tree) → Begins (or e f) k w v → Image (on_first left) (Begins e k w) v ⊎ Image (on_first right) (Begins f k w) v
  from_or v (begins {u = r} (is_left {t = t} h) x hs p) = inl (t ∷ r, begins h x hs p, refl)
  from_or v (begins {u = r} (is_right {t = t} h) x hs p) = inr (t ∷ r, begins h x hs p, refl)

-- Stars.
module _ {e : Expr} {k : List Expr} {w : List ℕ} where
  pub to_member : (u : List Tree) → Begins e (star e ∷ k) w u → Begins (star e) k w (merge more u)
  to_member u (begins {t = t} h x (is_cons {t = t'} {u = r} h' hs) p) =
      begins (is_more h x h') (first_letters t t' x) hs (append_assoc (spells t) (spells t') (spell_all r) ∙ p)

  pub from_star : (v : List Tree) → Begins (star e) k w v → Image (merge more) (Begins e (star e ∷ k) w) v
  from_star v (begins is_end x hs p) = absurd (clash x)
  from_star v (begins {u = r} (is_more {t = t} {u = t'} h y h') x hs p) =
      (t ∷ (t' ∷ r), begins h y (is_cons h' hs) (sym (append_assoc (spells t) (spells t') (spell_all r)) ∙ p), refl)

-- A change of the first tree, or of the first two into one, that keeps the order of trees with letters keeps that of tuples.
module _ {e g : Expr} (c : Tree → Tree) (mono : (t t' : Tree) → has_letters t ≡ true → has_letters t' ≡ true → Before e t t' → Before g (c t) (c t')) where
  on_first_order : {k : List Expr} {w w' : List ℕ} (u u' : List Tree) → Begins e k w u → Begins e k w' u' → Lex (e ∷ k) u u' → Lex (g ∷ k) (on_first c u) (on_first c u')
  on_first_order u u' (begins h x hs p) (begins h' x' hs' p') (here b) = here (mono _ _ x x' b)
  on_first_order u u' (begins h x hs p) (begins h' x' hs' p') (there q l) = there (ap c q) l

module _ {e f g : Expr} (c : Tree → Tree → Tree)
    (first : (t u t' u' : Tree) → has_letters t ≡ true → has_letters t' ≡ true → Before e t t' → Before g (c t u) (c t' u'))
    (second : (t u t' u' : Tree) → has_letters t ≡ true → has_letters t' ≡ true → t ≡ t' → Before f u u' → Before g (c t u) (c t' u')) where
  merge_order : {k : List Expr} {w w' : List ℕ} (u u' : List Tree) → Begins e (f ∷ k) w u → Begins e (f ∷ k) w' u' → Lex (e ∷ (f ∷ k)) u u' → Lex (g ∷ k) (merge c u) (merge c u')
  merge_order u u' (begins h x (is_cons hs₀ hs) p) (begins h' x' (is_cons hs₀' hs') p') (here b) = here (first _ _ _ _ x x' b)
  merge_order u u' (begins h x (is_cons hs₀ hs) p) (begins h' x' (is_cons hs₀' hs') p') (there q (here b)) = here (second _ _ _ _ x x' q b)
  merge_order u u' (begins h x (is_cons hs₀ hs) p) (begins h' x' (is_cons hs₀' hs') p') (there q (there q' l)) = there (cc) l

module _ {e f : Expr} {k : List Expr} {w w' : List ℕ} (u u' : List Tree) where
  pub first_order : Begins e (f ∷ k) w u → Begins e (f ∷ k) w' u' → Lex (e ∷ (f ∷ k)) u u' → Lex (pair e f ∷ k) (merge both u) (merge both u')
  first_order = merge_order both
      (λ t s t' s' x x' b. parts_before (alike (first_letters t s x) (first_letters t' s' x')) (by_first b))
      (λ t s t' s' x x' q b. parts_before (alike (first_letters t s x) (first_letters t' s' x')) (by_second q b)) u u'

  pub second_order : (s : Tree) → Begins f k w u → Begins f k w' u' → Lex (f ∷ k) u u' → Lex (pair e f ∷ k) (on_first (both s) u) (on_first (both s) u')
  second_order s = on_first_order (both s) (λ t t' x x' b. parts_before (alike (second_letters s t x) (second_letters s t' x')) (by_second refl b)) u u'

  pub left_order : Begins e k w u → Begins e k w' u' → Lex (e ∷ k) u u' → Lex (or e f ∷ k) (on_first left u) (on_first left u')
  left_order = on_first_order left (λ t t' x x' b. parts_before (alike x x') (by_left b)) u u'

  pub right_order : Begins f k w u → Begins f k w' u' → Lex (f ∷ k) u u' → Lex (or e f ∷ k) (on_first right u) (on_first right u')
  right_order = on_first_order right (λ t t' x x' b. parts_before (alike x x') (by_right b)) u u'

  -- Letters in the first part of a pair come before letters in the second only, and these by the trees of the first part without letters.
  pub first_then_second : (s : Tree) → Begins e (f ∷ k) w u → Parse e [] s → Begins f k w' u' → Lex (pair e f ∷ k) (merge both u) (on_first (both s) u')
  first_then_second s b c b' = go s b c b'
    where
      go : {u u' : List Tree} (s : Tree) → Begins e (f ∷ k) w u → Parse e [] s → Begins f k w' u' → Lex (pair e f ∷ k) (merge both u) (on_first (both s) u')
      go s (begins {t = t} h x (is_cons {t = t₂} h' hs) p) b (begins {t = t'} i y is' q) =
          here (parts_before (alike (first_letters t t₂ x) (second_letters s t' y)) (by_first (letters_before x (nil_empty b.spelt))))

  pub passed_order : (s s' : Tree) → Begins f k w u → Begins f k w' u' → Before e s s' → Lex (pair e f ∷ k) (on_first (both s) u) (on_first (both s') u')
  passed_order s s' b b' c = go b b'
    where
      go : {u u' : List Tree} → Begins f k w u → Begins f k w' u' → Lex (pair e f ∷ k) (on_first (both s) u) (on_first (both s') u')
      go (begins {t = t} h x hs p) (begins {t = t'} h' x' hs' p') = here (parts_before (alike (second_letters s t x) (second_letters s' t' x')) (by_first c))

  pub left_then_right : Begins e k w u → Begins f k w' u' → Lex (or e f ∷ k) (on_first left u) (on_first right u')
  left_then_right b b' = go b b'
    where
      go : {u u' : List Tree} → Begins e k w u → Begins f k w' u' → Lex (or e f ∷ k) (on_first left u) (on_first right u')
      go (begins h x hs p) (begins h' x' hs' p') = here (left_before (alike x x'))

module _ {e : Expr} {k : List Expr} {w w' : List ℕ} (u u' : List Tree) where
  pub member_order : Begins e (star e ∷ k) w u → Begins e (star e ∷ k) w' u' → Lex (e ∷ (star e ∷ k)) u u' → Lex (star e ∷ k) (merge more u) (merge more u')
  member_order = merge_order more
      (λ t s t' s' x x' b. parts_before (alike (first_letters t s x) (first_letters t' s' x')) (by_member b))
      (λ t s t' s' x x' q b. parts_before (alike (first_letters t s x) (first_letters t' s' x')) (by_rest q b)) u u'
