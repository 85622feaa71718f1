-- How the first of a set is found from the first of its parts.
use Rattle.std.proofs.Common.{◌≡◌, true, ◌⊎◌, refl, ap, ◌∙◌, subst, inl, inr, ⊎_elim, Some, None, Option, is_some}
use Rattle.std.specs.Option.{option_map, option_or}
use borrow.Author.Tests.{clash}
use Rattle.expression.specs.Optional.{lift2}
use Rattle.expression.specs.Search.{FirstOf}

-- What a function makes of the members of one set, or of two.
abbrev pub Image : {A B : Type 0} → (A → B) → (A → Type 0) → B → Type 0
Image {A} f P v = (a : A) × P a × (f a ≡ v)

abbrev pub Image2 : {A B C : Type 0} → (A → B → C) → (A → Type 0) → (B → Type 0) → C → Type 0
Image2 {A} {B} f P Q v = (a : A) × (b : B) × P a × Q b × (f a b ≡ v)

module _ {A B : Type 0} (f : A → B) (P : A → Type 0) where
  pub image : (Q : B → Type 0) → ((a : A) → P a → Q (f a)) → (v : B) → Image f P v → Q v
  image Q g v m = subst Q m.2 (g m.0 m.1)

module _ {A B C : Type 0} (f : A → B → C) (P : A → Type 0) (S : B → Type 0) where
  pub image2 : (Q : C → Type 0) → ((a : A) (b : B) → P a → S b → Q (f a b)) → (v : C) → Image2 f P S v → Q v
  image2 Q g v m = subst Q m.4 (g m.0 m.1 m.2 m.3)

module _ {A : Type 0} (P Q : A → Type 0) (R : A → A → Type 0) where
  pub first_iff : (o : Option A) → FirstOf P R o → ((a : A) → P a → Q a) → ((a : A) → Q a → P a) → FirstOf Q R o
  first_iff None h to from = λ u q. h u (from u q)
  first_iff (Some t) h to from = (to t h.0, λ u q. h.1 u (from u q))

module _ {A : Type 0} (P Q S : A → Type 0) (R : A → A → Type 0) where
  pub first_or : (o o' : Option A) → FirstOf P R o → FirstOf Q R o' → ((a b : A) → P a → Q b → R a b)
      → ((a : A) → P a → S a) → ((a : A) → Q a → S a) → ((a : A) → S a → P a ⊎ Q a) → FirstOf S R (option_or o o')
  first_or None None h k across p q s = λ u m. ⊎_elim (h u) (k u) (s u m)
  first_or None (Some t) h k across p q s = (q t k.0, λ u m. ⊎_elim (λ x. absurd (h u x)) (k.1 u) (s u m))
  first_or (Some t) o' h k across p q s = (p t h.0, λ u m. ⊎_elim (h.1 u) (λ x. inr (across t u h.0 x)) (s u m))

module _ {A B : Type 0} (P : A → Type 0) (R : A → A → Type 0) (W : B → B → Type 0) (f : A → B) where
  pub first_map : (o : Option A) → FirstOf P R o → ((a b : A) → P a → P b → R a b → W (f a) (f b)) → FirstOf (Image f P) W (option_map f o)
  first_map None h mono = λ v m. h m.0 m.1
  first_map (Some t) h mono =
      ((t, h.0, refl), λ v m. ⊎_elim (λ (q : t ≡ m.0). inl (ap f q ∙ m.2)) (λ r. inr (subst (W (f t)) m.2 (mono t m.0 h.0 m.1 r))) (h.1 m.0 m.1))

module _ {A B C : Type 0} (P : A → Type 0) (Q : B → Type 0) (R : A → A → Type 0) (S : B → B → Type 0) (W : C → C → Type 0) (f : A → B → C) where
  pub first_lift2 : (o : Option A) (o' : Option B) → FirstOf P R o → FirstOf Q S o'
      → ((a a' : A) (b b' : B) → P a → P a' → Q b → Q b' → R a a' → W (f a b) (f a' b'))
      → ((a : A) (b b' : B) → P a → Q b → Q b' → S b b' → W (f a b) (f a b'))
      → FirstOf (Image2 f P Q) W (lift2 f o o')
  first_lift2 None o' h k m1 m2 = λ v m. h m.0 m.2
  first_lift2 (Some t) None h k m1 m2 = λ v m. k m.1 m.3
  first_lift2 (Some t) (Some u) h k m1 m2 = (
    (t, u, h.0, k.0, refl),
    λ v m. subst (λ (c : C). (f t u ≡ c) ⊎ W (f t u) c) m.4 (go m.0 m.1 m.2 m.3 (h.1 m.0 m.2) (k.1 m.1 m.3)),
  )
    where
      go : (a : A) (b : B) → P a → Q b → (t ≡ a) ⊎ R t a → (u ≡ b) ⊎ S u b → (f t u ≡ f a b) ⊎ W (f t u) (f a b)
      go a b p q (inr r) y = inr (m1 t a u b h.0 p k.0 q r)
      go a b p q (inl e) (inl e') = inl (cc)
      go a b p q (inl e) (inr s) = inr (rw (← e) (m2 t u b h.0 k.0 q s))

-- There is a first exactly if there is any.
module _ {A : Type 0} (P : A → Type 0) (R : A → A → Type 0) where
  pub found : (o : Option A) → FirstOf P R o → is_some o ≡ true → (u : A) × P u
  found None h q = absurd (clash q)
  found (Some u) h q = (u, h.0)

  pub found_some : (o : Option A) → FirstOf P R o → (u : A) → P u → is_some o ≡ true
  found_some None h u p = absurd (h u p)
  found_some (Some v) h u p = refl
