-- Checked nodes stand for parts of their table.
use Rattle.std.proofs.Common.{◌≡◌, ℕ, zero, suc, ◌+◌, ◌-◌, ◌<◌, ◌≤◌, ◌&&◌, ◌||◌, List, length, sym, refl, ap, ◌∙◌, subst, ap₂, arith}
use Rattle.expression.specs.declared.node.Node.{Node}
use Rattle.expression.specs.declared.node.Shape.{Shape}
use Rattle.expression.specs.declared.node.Shape.TheVariants.{Letter, Empty, Pair, Or, Star}
use Rattle.expression.specs.declared.raw.RawNode.{RawNode}
use Rattle.expression.specs.Expressions.{Expr, admits_empty}
use Rattle.expression.specs.Fitted.{Shaped, letters_to, Fitted}
use Rattle.expression.specs.Nodes.{node, admits_at, admits_by, raw_shape, raw_of, expr_by, expr_within, expr_at}
use Rattle.expression.specs.Tables.{raw, letter_count, letters_below, Part, part_letter, part_empty, part_pair, part_or, part_star, OneEnds, TwoEnd}
use Rattle.expression.proofs.Parts.{part_rises, same_part}

-- The part that the node n, with number i, ends.
pub record Ending (ts : List RawNode) (i : ℕ) (n : Node) (e : Expr) : Type 0 where
  pub part : Part ts n.start (suc i) e
  pub admits : n.admits ≡ admits_empty e

pub part_at : (ts : List RawNode) {a a' b b' : ℕ} {e : Expr} → a ≡ a' → b ≡ b' → Part ts a b e → Part ts a' b' e
part_at ts {a} {a'} {b} {b'} {e} p q t = subst (λ k. Part ts a' k e) q (subst (λ k. Part ts k b e) p t)

module _ (ns : List Node) (ts : List RawNode) (fits : (i : ℕ) → i < length ns → Fitted ns i (node ns i))
    (agree : (i : ℕ) → i < length ns → raw ts i ≡ raw_of (node ns i)) where
  stands_by : (i : ℕ) (n : Node) (s : Shape) → raw ts i ≡ raw_shape s → Shaped ns i n s
      → ((j : ℕ) → j < i → (node ns j).start ≤ j) → n.admits ≡ admits_by (admits_at ns) s
      → (f : ℕ → Expr) → ((j : ℕ) → j < i → Ending ts j (node ns j) (f j)) → Ending ts i n (expr_by f s)
  stands_by i n (Letter c) r sh low by f below = record { part = part_at ts (sym sh) refl (part_letter r); admits = by }
  stands_by i n Empty r sh low by f below = record { part = part_at ts (sym sh) refl (part_empty r); admits = by }
  stands_by i n (Pair j k) r sh low by f below =
      let l : k < i = omega (arith, sh.second) in
      let d = low k l in
      let x = below j (omega (arith, sh.first)) in
      let y = below k l in
      record {
        part = part_pair (part_at ts (sym sh.start) sh.first x.part) (part_at ts refl sh.second y.part) r;
        admits = by ∙ ap₂ ◌&&◌ x.admits y.admits;
      }
  stands_by i n (Or j k) r sh low by f below =
      let l : k < i = omega (arith, sh.second) in
      let d = low k l in
      let x = below j (omega (arith, sh.first)) in
      let y = below k l in
      record {
        part = part_or (part_at ts (sym sh.start) sh.first x.part) (part_at ts refl sh.second y.part) r;
        admits = by ∙ ap₂ ◌||◌ x.admits y.admits;
      }
  stands_by i n (Star j) r sh low by f below =
      let l : j < i = omega (arith, sh.child) in
      record { part = part_star (part_at ts (sym sh.start) sh.child (below j l).part) r; admits = by }

  stands_on : (i : ℕ) → i < length ns → (f : ℕ → Expr) → ((j : ℕ) → j < i → Ending ts j (node ns j) (f j)) → Ending ts i (node ns i) (expr_by f (node ns i).shape)
  stands_on i h f below =
      let t = fits i h in
      stands_by i (node ns i) (node ns i).shape (agree i h) t.shaped (λ j m. (fits j (omega arith)).low) t.admits f below

  stands_below : (k i : ℕ) → i < k → i < length ns → Ending ts i (node ns i) (expr_within k ns i)
  stands_below zero i l h = absurd (omega arith)
  stands_below (suc k) i l h = stands_on i h (λ j. expr_within k ns j) (λ j m. stands_below k j (omega arith) (omega arith))

  -- Each node ends a part that denotes its expression, which is made of its children's.
  pub stands : (i : ℕ) → i < length ns → Ending ts i (node ns i) (expr_at ns i)
  stands i h = stands_below (suc i) i (omega arith) h

  pub built : (i : ℕ) → i < length ns → expr_at ns i ≡ expr_by (expr_at ns) (node ns i).shape
  built i h = (same_part ts (stands i h).part (stands_on i h (expr_at ns) (λ j m. stands j (omega arith))).part).1

  pub letters_same : (i : ℕ) → i ≤ length ns → letters_to ns i ≡ letters_below ts i
  letters_same zero h = refl
  letters_same (suc i) h = rw agree ((fits i h).letters ∙ ap (λ k. k + letter_count (raw_of (node ns i))) (letters_same i (omega arith)))

  -- The part that ends with node j.
  pub one_ends : (j : ℕ) → j < length ns → OneEnds ts (suc j)
  one_ends j h = ((node ns j).start, expr_at ns j, (stands j h).part)

  -- The parts that end with node j, where one stands before that node's own.
  pub two_end : (j : ℕ) → j < length ns → 0 < (node ns j).start → TwoEnd ts (suc j)
  two_end j h p =
      let l = (fits j h).low in
      let k : (node ns j).start - 1 < length ns = omega arith in
      let e : suc ((node ns j).start - 1) ≡ (node ns j).start = omega arith in
      ((node ns ((node ns j).start - 1)).start, (node ns j).start, expr_at ns ((node ns j).start - 1), expr_at ns j, part_at ts refl e (stands _ k).part, (stands j h).part)

  pub no_two_end : (j : ℕ) → j < length ns → (node ns j).start ≡ 0 → TwoEnd ts (suc j) → ⊥
  no_two_end j h z t =
      let s = same_part ts t.5 (stands j h).part in
      let r = part_rises ts t.4 in
      omega (arith, s.0)

pub no_one_ends : (ts : List RawNode) → OneEnds ts 0 → ⊥
no_one_ends ts t = let r = part_rises ts t.2 in omega arith

pub no_two_at_first : (ts : List RawNode) → TwoEnd ts 0 → ⊥
no_two_at_first ts t = let r = part_rises ts t.5 in omega arith
