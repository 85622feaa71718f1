-- Parts of a table: each end has at most one part.
use Rattle.std.proofs.Common.{◌≡◌, ℕ, suc, ◌<◌, ◌≤◌, Bool, List, sym, refl, ap, ◌∙◌, subst, ap₂, arith}
use native.Mathlib.Decide.{dec_lt}
use Rattle.expression.specs.Expressions.{Expr, letter, empty, pair, or, star}
use Rattle.expression.specs.Tables.{raw, Faulty, Part, part_letter, part_empty, part_pair, part_or, part_star}
use Rattle.expression.specs.Verdicts.{OneExpression}
use Rattle.expression.specs.declared.raw.RawNode.{RawNode}
use Rattle.expression.specs.declared.raw.RawNode.TheVariants.{Letter, Empty, Pair, Or, Star, Unknown}

-- What a part that ends with node b is made of, by that node.
abbrev pub Ends : List RawNode → ℕ → ℕ → Expr → RawNode → Type 0
Ends ns a b e (Letter c) = (a ≡ b) × (e ≡ letter c)
Ends ns a b e Empty = (a ≡ b) × (e ≡ empty)
Ends ns a b e Pair = (m : ℕ) × (x : Expr) × (y : Expr) × Part ns a m x × Part ns m b y × (e ≡ pair x y)
Ends ns a b e Or = (m : ℕ) × (x : Expr) × (y : Expr) × Part ns a m x × Part ns m b y × (e ≡ or x y)
Ends ns a b e Star = (x : Expr) × Part ns a b x × (e ≡ star x)
Ends ns a b e (Unknown k) = ⊥

pub ending : (ns : List RawNode) {a b : ℕ} {e : Expr} → Part ns a (suc b) e → Ends ns a b e (raw ns b)
ending ns (part_letter q) = rw q (refl, refl)
ending ns (part_empty q) = rw q (refl, refl)
ending ns (part_pair {m = m} {x = x} {y = y} p r q) = rw q (m, x, y, p, r, refl)
ending ns (part_or {m = m} {x = x} {y = y} p r q) = rw q (m, x, y, p, r, refl)
ending ns (part_star {x = x} p q) = rw q (x, p, refl)

pub part_rises : (ns : List RawNode) {a b : ℕ} {e : Expr} → Part ns a b e → a < b
part_rises ns (part_letter q) = omega arith
part_rises ns (part_empty q) = omega arith
part_rises ns (part_pair p r q) = let u = part_rises ns p in let v = part_rises ns r in omega arith
part_rises ns (part_or p r q) = let u = part_rises ns p in let v = part_rises ns r in omega arith
part_rises ns (part_star p q) = let u = part_rises ns p in omega arith

-- Where a part begins and what it denotes is determined by its end.
pub same_part : (ns : List RawNode) {a a' b : ℕ} {e e' : Expr} → Part ns a b e → Part ns a' b e' → (a ≡ a') × (e ≡ e')
same_part ns (part_letter q) s = let t = rw q at (ending ns s) in (sym t.0, sym t.1)
same_part ns (part_empty q) s = let t = rw q at (ending ns s) in (sym t.0, sym t.1)
same_part ns {a' = a'} (part_pair p r q) s =
    let t = rw q at (ending ns s) in
    let j = same_part ns r t.4 in
    let i = same_part ns p (subst (λ k. Part ns a' k t.1) (sym j.0) t.3) in
    (i.0, ap₂ pair i.1 j.1 ∙ sym t.5)
same_part ns {a' = a'} (part_or p r q) s =
    let t = rw q at (ending ns s) in
    let j = same_part ns r t.4 in
    let i = same_part ns p (subst (λ k. Part ns a' k t.1) (sym j.0) t.3) in
    (i.0, ap₂ or i.1 j.1 ∙ sym t.5)
same_part ns (part_star p q) s =
    let t = rw q at (ending ns s) in
    let i = same_part ns p t.1 in
    (i.0, ap star i.1 ∙ sym t.2)

pub one_expression : OneExpression
one_expression ns a a' b e e' p q = same_part ns p q

-- Cases on a number below another.
pub last_or_below : (P : ℕ → Type 0) (n i : ℕ) → i < suc n → (i < n → P i) → P n → P i
last_or_below P n i h low top = elim (dec_lt i n) [ yes l ↦ low l | no f ↦ let e : n ≡ i = omega (arith, h, f) in subst P e top ]

below_or_not : (P : Type 0) (m i : ℕ) → (i < m → P) → (m ≤ i → P) → P
below_or_not P m i low high = elim (dec_lt i m) [ yes d ↦ low d | no d ↦ high (omega (arith, d)) ]

-- A node inside a part has its children.
module _ (give : ℕ → Bool) (ns : List RawNode) where
  abbrev Unbroken : ℕ → Type 0
  Unbroken i = ((c : ℕ) → raw ns i ≡ Letter c → Faulty give ns i (Letter c) → ⊥) → Faulty give ns i (raw ns i) → ⊥

  pub inside : {a b : ℕ} {e : Expr} → Part ns a b e → (i : ℕ) → a ≤ i → i < b → Unbroken i
  inside (part_letter {b} {c} q) i l h = last_or_below Unbroken b i h (λ k. absurd (omega arith)) (λ fine f. fine c q (rw q at f))
  inside (part_empty {b} q) i l h = last_or_below Unbroken b i h (λ k. absurd (omega arith)) (λ fine f. rw q at f)
  inside (part_pair {a} {m} {b} {x} {y} p r q) i l h =
      last_or_below Unbroken b i h (λ k. below_or_not (Unbroken i) m i (inside p i l) (λ d. inside r i d k)) (λ fine f. (rw q at f) (a, m, x, y, p, r))
  inside (part_or {a} {m} {b} {x} {y} p r q) i l h =
      last_or_below Unbroken b i h (λ k. below_or_not (Unbroken i) m i (inside p i l) (λ d. inside r i d k)) (λ fine f. (rw q at f) (a, m, x, y, p, r))
  inside (part_star {a} {b} {x} p q) i l h = last_or_below Unbroken b i h (inside p i l) (λ fine f. (rw q at f) (a, x, p))
