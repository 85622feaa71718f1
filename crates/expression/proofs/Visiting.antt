-- A step of a walk along a layout.
use Rattle.std.proofs.Common.{◌≡◌, ℕ, suc, ◌+◌, ◌*◌, ◌^◌, ◌<◌, ◌≤◌, Bool, true, false, cond, List, [], ◌∷◌, ◌++◌, length, reverse, Some, None, Option, sym, refl, ap, append-nil, ◌∙◌, arith}
use mathlib.Core.Logic.{∥∥₁_elim}
use Rattle.std.proofs.Props.{props}
use Rattle.std.proofs.lemmas.List.{reverse-append, length-reverse}
use Rattle.std.specs.Option.{option_to_list}
use Rattle.expression.specs.declared.node.Node.{Node}
use Rattle.expression.specs.declared.node.Shape.{Shape}
use Rattle.expression.specs.declared.node.Shape.TheVariants as shape
use Rattle.expression.specs.declared.walk.Pending.{Pending}
use Rattle.expression.specs.declared.walk.Walk.{Walk}
use Rattle.expression.specs.Coming.{size, due, along, dues, weight, Fits}
use Rattle.expression.specs.Expressions.{Expr, letter, empty, pair, or, star}
use Rattle.expression.specs.Following.{dues_of, left, expr_of, to_come_by, Next}
use Rattle.expression.specs.Layouts.{nodes_of}
use Rattle.expression.specs.Nodes.{node, expr_by}
use Rattle.expression.proofs.Sizes.{Lower, node_size, made_as, lower_as}
use Rattle.expression.proofs.Along.{along_pair, along_left, along_right, along_member}

pub size_some : (e : Expr) → 0 < size e
size_some (letter a) = omega arith
size_some empty = omega arith
size_some (pair e f) = omega arith
size_some (or e f) = omega arith
size_some (star e) = omega arith

fits_prop : (ns : List Node) (k : List Pending) → IsProp (Fits ns k)
fits_prop ns [] = hlevel props
fits_prop ns (p ∷ k) = let h = fits_prop ns k in hlevel props

pub fits_of : (ns : List Node) (k : List Pending) → ∥ Fits ns k ∥₁ → Fits ns k
fits_of ns k h = ∥∥₁_elim h (fits_prop ns k) (λ x. x)

-- The stack after a node is put on it, and after two are.
pub one_on : (xs ys : List Pending) (p q : Pending) → ys ≡ xs ++ p ∷ [] → p ≡ q → reverse ys ≡ q ∷ reverse xs
one_on xs ys p q e f = rw (e, f) (reverse-append xs (q ∷ []))

pub two_on : (xs ys zs : List Pending) (p q p' q' : Pending) → ys ≡ xs ++ p ∷ [] → p ≡ q → zs ≡ ys ++ p' ∷ [] → p' ≡ q' → reverse zs ≡ q' ∷ (q ∷ reverse xs)
two_on xs ys zs p q p' q' e f g h = one_on ys zs p' q' g h ∙ ap (λ k. q' ∷ k) (one_on xs ys p q e f)

abbrev pub at_once : ℕ → Pending
at_once i = record { node = i; again = false }

-- What the visit of node i leaves: the nodes k and the turns ts are then to come, and b tells whether the last member has no letter so far.
pub record Left (w : Walk) (i : ℕ) (k : List Pending) (b : Bool) (ts : List ℕ) : Type 0 where
  pub codes : to_come_by w i ≡ along (dues (nodes_of w.layout.now) k) b ts
  pub less : 255 * length ts + weight (dues (nodes_of w.layout.now) k) < size (expr_of w i) + left w
  pub fits : Fits (nodes_of w.layout.now) k

-- The walk's own facts after that.
pub fits_left : {w : Walk} {i : ℕ} {k : List Pending} {b : Bool} {ts : List ℕ} (items : List Pending) → Left w i k b ts → reverse items ≡ k → ∥ Fits (nodes_of w.layout.now) (reverse items) ∥₁
fits_left items x e = rw e (∣ x.fits ∣₁)

pub small_left : {w : Walk} {i : ℕ} {k : List Pending} {b : Bool} {ts : List ℕ} (items : List Pending) → Next w i → Left w i k b ts → reverse items ≡ k
    → w.letters + (255 * length ts + weight (dues (nodes_of w.layout.now) (reverse items))) < 2 ^ 128
small_left items next x e = rw e (omega (arith, x.less, next.small))

-- The visit of node i, which reads `here`.
module _ (w : Walk) (i : ℕ) (next : Next w i) (here : Node) (read : here ≡ node (nodes_of w.layout.now) i) where
  abbrev expr : ℕ → Expr
  expr = expr_of w

  abbrev stack : List Pending
  stack = reverse w.pending.items

  fits : Fits (nodes_of w.layout.now) stack
  fits = fits_of (nodes_of w.layout.now) stack w.fits

  room : length stack + size (expr i) ≤ 255
  room = omega (arith, next.fits, length-reverse w.pending.items)

  made : {s : Shape} → here.shape ≡ s → expr i ≡ expr_by expr s
  made p = made_as w.layout.now i next.inside here read p

  lower : {s : Shape} → here.shape ≡ s → Lower i s
  lower p = lower_as w.layout.now i next.inside here read p

  pub visit_pair : {j m : ℕ} → here.shape ≡ shape.Pair j m → Left w i (at_once j ∷ (at_once m ∷ stack)) w.bare w.turns.now
  visit_pair {j} {m} p =
      let h = next.inside in
      let low = lower p in
      let s : size (expr i) ≡ suc (size (expr j) + size (expr m)) = ap size (made p) in
      record {
        codes = rw (made p) (along_pair (dues_of w) w.bare (expr j) (expr m) w.turns.now);
        less = omega arith;
        fits = (omega arith, omega (arith, room), (omega arith, omega (arith, room), fits));
      }

  pub visit_side : {j m : ℕ} → here.shape ≡ shape.Or j m → (b : Bool) (ts : List ℕ) → w.turns.now ≡ cond b 1 0 ∷ ts → Left w i (at_once (cond b m j) ∷ stack) w.bare ts
  visit_side {j} {m} p true ts t =
      let h = next.inside in
      let low = lower p in
      let s : size (expr i) ≡ suc (size (expr j) + size (expr m)) = ap size (made p) in
      record { codes = rw (made p, t) (along_right (dues_of w) w.bare (expr j) (expr m) ts); less = rw t (omega arith); fits = (omega arith, omega (arith, room), fits) }
  visit_side {j} {m} p false ts t =
      let h = next.inside in
      let low = lower p in
      let s : size (expr i) ≡ suc (size (expr j) + size (expr m)) = ap size (made p) in
      record { codes = rw (made p, t) (along_left (dues_of w) w.bare (expr j) (expr m) ts); less = rw t (omega arith); fits = (omega arith, omega (arith, room), fits) }

  pub visit_list : {j : ℕ} → here.shape ≡ shape.Star j → (ts : List ℕ) → w.turns.now ≡ 0 ∷ ts → Left w i (at_once j ∷ (record { node = i; again = true } ∷ stack)) true ts
  visit_list {j} p ts t =
      let h = next.inside in
      let low = lower p in
      let s : size (expr i) ≡ suc (size (expr j)) = ap size (made p) in
      let n = node_size w.layout.now i h in
      record {
        codes = rw t
            (ap (λ e. along (due false e ∷ dues_of w) w.bare (0 ∷ ts)) (made p) ∙ along_member (dues_of w) w.bare (expr j) ts
            ∙ ap (λ e. along (due false (expr j) ∷ (due true e ∷ dues_of w)) true ts) (sym (made p)));
        less = rw t (omega (arith, w.layout.now.whole.1));
        fits = (omega arith, omega (arith, room), (h, room, fits));
      }

-- The node p was on top of a walk, and xs come after it.
module _ (w : Walk) (xs : List Pending) (p : Pending) (e : w.pending.items ≡ xs ++ p ∷ []) where
  abbrev ns : List Node
  ns = nodes_of w.layout.now

  stack_is : reverse w.pending.items ≡ p ∷ reverse xs
  stack_is = one_on xs w.pending.items p p e refl

  dues_is : dues_of w ≡ due p.again (expr_of w p.node) ∷ dues ns (reverse xs)
  dues_is = ap (dues ns) stack_is

  top_fits : Fits ns (p ∷ reverse xs)
  top_fits = rw stack_is at (fits_of ns (reverse w.pending.items) w.fits)

  pub left_is : left w ≡ size (expr_of w p.node) + (255 * length w.turns.now + weight (dues ns (reverse xs)))
  left_is = omega (arith, ap weight dues_is)

  pub below_fits : Fits ns (reverse xs)
  below_fits = top_fits.2

-- The facts of a walk after a node is popped, if there is one.
module _ (w : Walk) (xs : List Pending) where
  pub fits_popped : (o : Option Pending) → w.pending.items ≡ xs ++ option_to_list o → Fits (nodes_of w.layout.now) (reverse xs)
  fits_popped None e = let f : w.pending.items ≡ xs = e ∙ append-nil xs in rw f at (fits_of (nodes_of w.layout.now) (reverse w.pending.items) w.fits)
  fits_popped (Some p) e = below_fits w xs p e

  pub small_popped : (o : Option Pending) → w.pending.items ≡ xs ++ option_to_list o
      → w.letters + (255 * length w.turns.now + weight (dues (nodes_of w.layout.now) (reverse xs))) < 2 ^ 128
  small_popped None e = let f : w.pending.items ≡ xs = e ∙ append-nil xs in rw (← f) w.small
  small_popped (Some p) e = omega (arith, w.small, left_is w xs p e)
