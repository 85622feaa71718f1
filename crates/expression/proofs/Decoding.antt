-- Reading a tree from turns finds exactly the trees of the expression.
use Rattle.std.proofs.Common.{◌≡◌, ℕ, zero, suc, ◌≤◌, Bool, true, false, cond, List, [], ◌∷◌, ◌++◌, length, sym, refl, ap, ◌∙◌, subst, append_assoc, append-nil, arith, length-append, Some, None, Option}
use Prim.{Unit, tt}
use Rattle.expression.specs.Expressions.{Expr, letter, empty, pair, or, star}
use Rattle.expression.specs.Trees.{Tree, more, TreeOf, is_leaf, is_unit, is_both, is_left, is_right, is_end, is_more, has_letters}
use Rattle.expression.specs.Turns.{turns, Decoded, decoded, decode_list, decode, whole, tree_with}
use Rattle.expression.specs.Optional.{and_then}

-- What is read is a tree of e, whose turns came first.
pub record Read (e : Expr) (ts : List ℕ) (x : Decoded) : Type 0 where
  pub is : TreeOf e x.tree
  pub came : ts ≡ turns x.tree ++ x.rest

-- A fact of a value, where there is one.
abbrev IfSome : {A : Type 0} → (A → Type 0) → Option A → Type 0
IfSome P None = Unit {0}
IfSome P (Some a) = P a

module _ {A B : Type 0} (P : A → Type 0) (Q : B → Type 0) where
  chain : (o : Option A) (f : A → Option B) → IfSome P o → ((a : A) → P a → IfSome Q (f a)) → IfSome Q (and_then o f)
  chain None f p q = tt
  chain (Some a) f p q = q a p

module _ (e : Expr) (d : List ℕ → Option Decoded) (sound : (ts : List ℕ) → IfSome (Read e ts) (d ts)) where
  list_sound : (n : ℕ) (ts : List ℕ) → IfSome (Read (star e) ts) (decode_list d n ts)
  list_sound zero ts = tt
  list_sound (suc n) [] = tt
  list_sound (suc n) (zero ∷ ts) = chain (Read e ts) (Read (star e) (0 ∷ ts)) (d ts) _ (sound ts) (λ x p. member x p (has_letters x.tree) refl (list_sound n x.rest))
    where
      member : (x : Decoded) → Read e ts x → (b : Bool) → has_letters x.tree ≡ b → IfSome (Read (star e) x.rest) (decode_list d n x.rest)
          → IfSome (Read (star e) (0 ∷ ts)) (cond b (and_then (decode_list d n x.rest) (λ y. Some (decoded (more x.tree y.tree) y.rest))) None)
      member x p false b l = tt
      member x p true b l =
          chain (Read (star e) x.rest) (Read (star e) (0 ∷ ts)) (decode_list d n x.rest) _ l
          (λ y q. record { is = is_more p.is b q.is; came = ap (λ (r : List ℕ). 0 ∷ r) (p.came ∙ ap (λ (r : List ℕ). turns x.tree ++ r) q.came ∙ sym (append_assoc (turns x.tree) (turns y.tree) y.rest)) })
  list_sound (suc n) (suc zero ∷ ts) = record { is = is_end; came = refl }
  list_sound (suc n) (suc (suc x) ∷ ts) = tt

decode_sound : (e : Expr) (ts : List ℕ) → IfSome (Read e ts) (decode e ts)
decode_sound (letter a) ts = record { is = is_leaf; came = refl }
decode_sound empty ts = record { is = is_unit; came = refl }
decode_sound (pair e f) ts =
    chain (Read e ts) (Read (pair e f) ts) (decode e ts) _ (decode_sound e ts)
    (λ x p. chain (Read f x.rest) (Read (pair e f) ts) (decode f x.rest) _ (decode_sound f x.rest)
    (λ y q. record { is = is_both p.is q.is; came = p.came ∙ ap (λ (r : List ℕ). turns x.tree ++ r) q.came ∙ sym (append_assoc (turns x.tree) (turns y.tree) y.rest) }))
decode_sound (or e f) [] = tt
decode_sound (or e f) (zero ∷ ts) =
    chain (Read e ts) (Read (or e f) (0 ∷ ts)) (decode e ts) _ (decode_sound e ts) (λ x p. record { is = is_left p.is; came = ap (λ (r : List ℕ). 0 ∷ r) p.came })
decode_sound (or e f) (suc zero ∷ ts) =
    chain (Read f ts) (Read (or e f) (1 ∷ ts)) (decode f ts) _ (decode_sound f ts) (λ x p. record { is = is_right p.is; came = ap (λ (r : List ℕ). 1 ∷ r) p.came })
decode_sound (or e f) (suc (suc x) ∷ ts) = tt
decode_sound (star e) ts = list_sound e (decode e) (decode_sound e) (length ts) ts

module _ (e : Expr) (d : List ℕ → Option Decoded) (complete : (t : Tree) → TreeOf e t → (s : List ℕ) → d (turns t ++ s) ≡ Some (decoded t s)) where
  list_complete : (n : ℕ) (t : Tree) → TreeOf (star e) t → (s : List ℕ) → length (turns t ++ s) ≤ n → decode_list d n (turns t ++ s) ≡ Some (decoded t s)
  list_complete zero t h s b = go t h b
    where
      go : (t : Tree) → TreeOf (star e) t → length (turns t ++ s) ≤ 0 → None ≡ Some (decoded t s)
      go t is_end b = absurd (omega arith)
      go t (is_more h y k) b = absurd (omega arith)
  list_complete (suc n) t h s b = go t h b (list_complete n)
    where
      go : (t : Tree) → TreeOf (star e) t → length (turns t ++ s) ≤ suc n
          → ((t : Tree) → TreeOf (star e) t → (s : List ℕ) → length (turns t ++ s) ≤ n → decode_list d n (turns t ++ s) ≡ Some (decoded t s))
          → decode_list d (suc n) (turns t ++ s) ≡ Some (decoded t s)
      go t is_end b ih = refl
      go t (is_more {t = a} {u = r} h y k) b ih =
          let l : length (turns r ++ s) ≤ n = omega (arith, length-append (turns a ++ turns r) s, length-append (turns a) (turns r), length-append (turns r) s) in
          let m = ih r k s l in
          rw (append_assoc (turns a) (turns r) s, complete a h (turns r ++ s), y, m)

pub decode_complete : (e : Expr) (t : Tree) → TreeOf e t → (s : List ℕ) → decode e (turns t ++ s) ≡ Some (decoded t s)
decode_complete (letter a) t h s = go t h
  where
    go : (t : Tree) → TreeOf (letter a) t → decode (letter a) (turns t ++ s) ≡ Some (decoded t s)
    go t is_leaf = refl
decode_complete empty t h s = go t h
  where
    go : (t : Tree) → TreeOf empty t → decode empty (turns t ++ s) ≡ Some (decoded t s)
    go t is_unit = refl
decode_complete (pair e f) t h s = go t h (decode_complete e) (decode_complete f)
  where
    go : (t : Tree) → TreeOf (pair e f) t → ((t : Tree) → TreeOf e t → (s : List ℕ) → decode e (turns t ++ s) ≡ Some (decoded t s))
        → ((t : Tree) → TreeOf f t → (s : List ℕ) → decode f (turns t ++ s) ≡ Some (decoded t s)) → decode (pair e f) (turns t ++ s) ≡ Some (decoded t s)
    go t (is_both {t = a} {u = b} h k) i j = rw (append_assoc (turns a) (turns b) s, i a h (turns b ++ s), j b k s)
decode_complete (or e f) t h s = go t h (decode_complete e) (decode_complete f)
  where
    go : (t : Tree) → TreeOf (or e f) t → ((t : Tree) → TreeOf e t → (s : List ℕ) → decode e (turns t ++ s) ≡ Some (decoded t s))
        → ((t : Tree) → TreeOf f t → (s : List ℕ) → decode f (turns t ++ s) ≡ Some (decoded t s)) → decode (or e f) (turns t ++ s) ≡ Some (decoded t s)
    go t (is_left {t = a} h) i j = rw (i a h s)
    go t (is_right {t = a} h) i j = rw (j a h s)
decode_complete (star e) t h s = list_complete e (decode e) (decode_complete e) (length (turns t ++ s)) t h s (omega arith)

-- Two trees of one expression whose turns begin one list are the same tree.
some_inj : {A : Type 0} (x y : A) → Some x ≡ Some y → x ≡ y
some_inj x y p = cc

pub prefix : (e : Expr) (t u : Tree) (s s' : List ℕ) → TreeOf e t → TreeOf e u → turns t ++ s ≡ turns u ++ s' → (t ≡ u) × (s ≡ s')
prefix e t u s s' h k p =
    let q : decoded t s ≡ decoded u s' = some_inj _ _ (sym (decode_complete e t h s) ∙ ap (decode e) p ∙ decode_complete e u k s') in
    (ap (λ (x : Decoded). x.tree) q, ap (λ (x : Decoded). x.rest) q)

pub decode_only : (e : Expr) (ts : List ℕ) (t : Tree) (s : List ℕ) → decode e ts ≡ Some (decoded t s) → TreeOf e t × (ts ≡ turns t ++ s)
decode_only e ts t s p = let r = subst (IfSome (Read e ts)) p (decode_sound e ts) in (r.is, r.came)

-- Where nothing is left over.
abbrev Exact : Expr → List ℕ → Tree → Type 0
Exact e ts t = TreeOf e t × (turns t ≡ ts)

pub tree_with_only : (e : Expr) (ts : List ℕ) (t : Tree) → tree_with e ts ≡ Some t → TreeOf e t × (turns t ≡ ts)
tree_with_only e ts t p = subst (IfSome (Exact e ts)) p (chain (Read e ts) (Exact e ts) (decode e ts) _ (decode_sound e ts) (λ x r. ended x.tree x.rest r.is r.came))
  where
    ended : (t : Tree) (s : List ℕ) → TreeOf e t → ts ≡ turns t ++ s → IfSome (Exact e ts) (whole t s)
    ended t [] h q = (h, sym (append-nil (turns t)) ∙ sym q)
    ended t (x ∷ s) h q = tt

pub tree_with_complete : (e : Expr) (ts : List ℕ) (t : Tree) → TreeOf e t → turns t ≡ ts → tree_with e ts ≡ Some t
tree_with_complete e ts t h p = let d : decode e ts ≡ Some (decoded t []) = ap (decode e) (sym p ∙ sym (append-nil (turns t))) ∙ decode_complete e t h [] in rw d
