-- What turns spell along what is due, node by node.
use Rattle.std.proofs.Common.{◌≡◌, ℕ, zero, suc, ◌≤◌, Bool, true, false, cond, List, [], ◌∷◌, ◌++◌, length, sym, refl, ap, ◌∙◌, append_assoc, arith, length-append, Some, None, Option}
use Rattle.std.specs.Option.{option_map}
use Rattle.expression.specs.Expressions.{Expr, pair, or, star}
use Rattle.expression.specs.Coming.{Due, due, bare_after, spent, along}
use Rattle.expression.specs.Following.{NoTurn}
use Rattle.expression.specs.Optional.{and_then}
use Rattle.expression.specs.Trees.{Tree, both, more, spells, nonempty, has_letters}
use Rattle.expression.specs.Turns.{Decoded, decoded, decode_list, decode, turns}
use Rattle.expression.proofs.Decoding.{decode_only}

pub omap_same : {A : Type 0} (o : Option (List A)) → option_map (λ w. [] ++ w) o ≡ o
omap_same None = refl
omap_same (Some w) = refl

omap_append : {A : Type 0} (a b : List A) (o : Option (List A)) → option_map (λ w. (a ++ b) ++ w) o ≡ option_map (λ w. a ++ w) (option_map (λ w. b ++ w) o)
omap_append a b None = refl
omap_append a b (Some w) = ap Some (append_assoc a b w)

and_then_same : {A B : Type 0} (o : Option A) (f g : A → Option B) → ((a : A) → o ≡ Some a → f a ≡ g a) → and_then o f ≡ and_then o g
and_then_same None f g h = refl
and_then_same (Some a) f g h = h a refl

and_then_twice : {A B C : Type 0} (o : Option A) (f : A → Option B) (g : B → Option C) → and_then (and_then o f) g ≡ and_then o (λ a. and_then (f a) g)
and_then_twice None f g = refl
and_then_twice (Some a) f g = refl

-- What is read shortens the turns.
pub decode_shorter : (e : Expr) (ts : List ℕ) (x : Decoded) → decode e ts ≡ Some x → length x.rest ≤ length ts
decode_shorter e ts x p =
    let q = (decode_only e ts x.tree x.rest p).1 in
    omega (arith, ap length q, length-append (turns x.tree) x.rest)

-- A list is read the same however many members are allowed, if there are enough.
module _ (e : Expr) where
  pub enough : (n m : ℕ) (ts : List ℕ) → length ts ≤ n → length ts ≤ m → decode_list (decode e) n ts ≡ decode_list (decode e) m ts
  enough zero zero ts l r = refl
  enough zero (suc m) [] l r = refl
  enough zero (suc m) (x ∷ ts) l r = absurd (omega arith)
  enough (suc n) zero [] l r = refl
  enough (suc n) zero (x ∷ ts) l r = absurd (omega arith)
  enough (suc n) (suc m) [] l r = refl
  enough (suc n) (suc m) (zero ∷ ts) l r = and_then_same (decode e ts) _ _ (λ x p. member x (decode_shorter e ts x p) (has_letters x.tree) (enough n m x.rest))
    where
      member : (x : Decoded) → length x.rest ≤ length ts → (b : Bool) → (length x.rest ≤ n → length x.rest ≤ m → decode_list (decode e) n x.rest ≡ decode_list (decode e) m x.rest)
          → ◌≡◌ {A = Option Decoded} (cond b (and_then (decode_list (decode e) n x.rest) (λ y. Some (decoded (more x.tree y.tree) y.rest))) None)
          (cond b (and_then (decode_list (decode e) m x.rest) (λ y. Some (decoded (more x.tree y.tree) y.rest))) None)
      member x s false ih = refl
      member x s true ih = ap (λ o. and_then o (λ y. Some (decoded (more x.tree y.tree) y.rest))) (ih (omega arith) (omega arith))
  enough (suc n) (suc m) (suc zero ∷ ts) l r = refl
  enough (suc n) (suc m) (suc (suc x) ∷ ts) l r = refl

-- Codes that are passed one after the other.
bare_append : (c : Bool) (a b : List ℕ) → bare_after c (a ++ b) ≡ bare_after (bare_after c a) b
bare_append c [] b = refl
bare_append c (x ∷ a) [] = refl
bare_append c (x ∷ a) (y ∷ b) = refl

-- The codes of a tree that was read and of what is due after it.
abbrev spelled : List Due → Bool → Decoded → Option (List ℕ)
spelled k c x = option_map (λ w. spells x.tree ++ w) (along k (bare_after c (spells x.tree)) x.rest)

module _ (k : List Due) (c : Bool) where
  -- What is due where no empty member comes before it.
  along_paid : (o : Bool) (e : Expr) (ts : List ℕ) → spent (due o e) c ≡ false → along (due o e ∷ k) c ts ≡ and_then (decode e ts) (spelled k c)
  along_paid o e ts h = rw h refl

  -- A tree and then another, as one.
  joined : (s : List ℕ) (a b : List ℕ) → option_map (λ w. (a ++ b) ++ w) (along k (bare_after c (a ++ b)) s) ≡ option_map (λ w. a ++ w) (option_map (λ w. b ++ w) (along k (bare_after (bare_after c a) b) s))
  joined s a b = rw (bare_append c a b) (omap_append a b (along k (bare_after (bare_after c a) b) s))

module _ (k : List Due) (c : Bool) where
  -- A tree of f that follows the codes a, made part of a tree by g.
  then_due : (a : List ℕ) (o : Bool) (f : Expr) (s : List ℕ) (g : Tree → Tree) → ((u : Tree) → spells (g u) ≡ a ++ spells u) → spent (due o f) (bare_after c a) ≡ false
      → and_then (and_then (decode f s) (λ y. Some (decoded (g y.tree) y.rest))) (spelled k c) ≡ option_map (λ w. a ++ w) (along (due o f ∷ k) (bare_after c a) s)
  then_due a o f s g same h = rw (along_paid k (bare_after c a) o f s h) (by (decode f s))
    where
      by : (o : Option Decoded) → and_then (and_then o (λ y. Some (decoded (g y.tree) y.rest))) (spelled k c) ≡ option_map (λ w. a ++ w) (and_then o (spelled k (bare_after c a)))
      by None = refl
      by (Some y) = rw same (joined k c y.rest a (spells y.tree))

  -- What is due for a pair is due for its parts.
  pub along_pair : (e f : Expr) (ts : List ℕ) → along (due false (pair e f) ∷ k) c ts ≡ along (due false e ∷ (due false f ∷ k)) c ts
  along_pair e f ts =
      and_then_twice (decode e ts) _ _
      ∙ and_then_same (decode e ts) _ _ (λ x p. then_due (spells x.tree) false f x.rest (both x.tree) (λ u. refl) refl)

  -- What is due for an or is due for the side that the turn names.
  pub along_left : (e f : Expr) (ts : List ℕ) → along (due false (or e f) ∷ k) c (0 ∷ ts) ≡ along (due false e ∷ k) c ts
  along_left e f ts = and_then_twice (decode e ts) _ _

  pub along_right : (e f : Expr) (ts : List ℕ) → along (due false (or e f) ∷ k) c (1 ∷ ts) ≡ along (due false f ∷ k) c ts
  along_right e f ts = and_then_twice (decode f ts) _ _

  -- After 0 a member is due, and then, once it has a letter, the rest of the list.
  pub along_member : (e : Expr) (ts : List ℕ) → along (due false (star e) ∷ k) c (0 ∷ ts) ≡ along (due false e ∷ (due true (star e) ∷ k)) true ts
  along_member e ts =
      and_then_twice (decode e ts) _ _
      ∙ and_then_same (decode e ts) _ _ (λ x p. member x (decode_shorter e ts x p) (spells x.tree) refl)
    where
      member : (x : Decoded) → length x.rest ≤ length ts → (a : List ℕ) → spells x.tree ≡ a
          → and_then (cond (has_letters x.tree) (and_then (decode_list (decode e) (length ts) x.rest) (λ y. Some (decoded (more x.tree y.tree) y.rest))) None) (spelled k c)
          ≡ option_map (λ w. spells x.tree ++ w) (along (due true (star e) ∷ k) (bare_after true (spells x.tree)) x.rest)
      member x s [] p = rw p refl
      member x s (b ∷ a) p =
          let t : has_letters x.tree ≡ true = ap nonempty p in
          let h : bare_after c (spells x.tree) ≡ false = ap (bare_after c) p in
          let q : bare_after true (spells x.tree) ≡ bare_after c (spells x.tree) = ap (bare_after true) p ∙ sym h in
          rw (t, q, enough e (length ts) (length x.rest) x.rest s (omega arith)) (then_due (spells x.tree) true (star e) x.rest (more x.tree) (λ u. refl) h)

  -- Where neither 0 nor 1 comes there is no tree of an or, and none of a star.
  pub along_no_or : (e f : Expr) (ts : List ℕ) → NoTurn ts → along (due false (or e f) ∷ k) c ts ≡ None
  along_no_or e f [] n = refl
  along_no_or e f (zero ∷ ts) n = absurd n
  along_no_or e f (suc zero ∷ ts) n = absurd n
  along_no_or e f (suc (suc x) ∷ ts) n = refl

  pub along_no_star : (e : Expr) (ts : List ℕ) → NoTurn ts → along (due false (star e) ∷ k) c ts ≡ None
  along_no_star e [] n = refl
  along_no_star e (zero ∷ ts) n = absurd n
  along_no_star e (suc zero ∷ ts) n = absurd n
  along_no_star e (suc (suc x) ∷ ts) n = refl
