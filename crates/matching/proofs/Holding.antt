-- The nodes of a layout hold the parts of its expression.
use Rattle.std.proofs.Common.{◌≡◌, ℕ, zero, suc, ◌+◌, ◌<◌, ◌≤◌, List, length, sym, refl, ap, ◌∙◌, subst, arith}
use Rattle.expression.specs.Expressions.{Expr, pair, or, admits_empty}
use Rattle.expression.specs.Places.{letter_count, item}
use Rattle.expression.specs.Nodes.{node, last, expr_by, expr_at}
use Rattle.expression.specs.Tables.{letters_below, Part, part_letter, part_empty, part_pair, part_or, part_star}
use Rattle.expression.specs.Fitted.{Shaped, letters_to}
use Rattle.expression.specs.Fitted as fitted
use Rattle.expression.specs.Coming.{size}
use Rattle.expression.specs.Layouts.{nodes_of, table_of, expression_of, places_of, Means}
use Rattle.expression.specs.declared.layout.Layout.{Layout}
use Rattle.expression.specs.declared.node.Node.{Node}
use Rattle.expression.specs.declared.node.Shape.{Shape}
use Rattle.expression.specs.declared.node.Shape.TheVariants.{Letter, Empty, Pair, Or, Star}
use Rattle.expression.specs.declared.raw.RawNode.{RawNode}
use Rattle.expression.proofs.Meaning.{layout_stands}
use Rattle.expression.proofs.Sizes.{node_size}
use Rattle.matching.specs.Holding.{held, whole, Two, Made, Tells}

part_letters : (ts : List RawNode) {a b : ℕ} {e : Expr} → Part ts a b e → letters_below ts b ≡ letters_below ts a + letter_count e
part_letters ts (part_letter q) = rw q
part_letters ts (part_empty q) = rw q
part_letters ts (part_pair p r q) = rw q (let u = part_letters ts p in let v = part_letters ts r in omega arith)
part_letters ts (part_or p r q) = rw q (let u = part_letters ts p in let v = part_letters ts r in omega arith)
part_letters ts (part_star p q) = rw q (let u = part_letters ts p in omega arith)

module _ (l : Layout) where
  means : (i : ℕ) → i < length (nodes_of l) → Means l i
  means = (layout_stands l).means

  letters_below_at : (i : ℕ) → i ≤ length (nodes_of l) → letters_to (nodes_of l) i ≡ letters_below (table_of l) i
  letters_below_at zero h = refl
  letters_below_at (suc i) h = (means i h).letters

  -- The letters up to a node are those before its part and its own.
  letters_at : (i : ℕ) → i < length (nodes_of l) → (node (nodes_of l) i).letters ≡ (held l i).before + letter_count (held l i).expr
  unfolding held
  letters_at i h =
      let m = means i h in
      let f = m.fits.low in
      m.letters ∙ part_letters (table_of l) m.part
      ∙ ap (λ (k : ℕ). k + letter_count (expr_at (nodes_of l) i)) (sym (letters_below_at (node (nodes_of l) i).start (omega arith)))

  admits_at : (i : ℕ) → i < length (nodes_of l) → (node (nodes_of l) i).admits ≡ admits_empty (held l i).expr
  unfolding held
  admits_at i h = (means i h).admits

  -- A node over two others, whose parts stand one after the other.
  two : (i j k : ℕ) (c : Expr → Expr → Expr) → i < length (nodes_of l) → fitted.Two (nodes_of l) i (node (nodes_of l) i) j k
      → expr_at (nodes_of l) i ≡ c (expr_at (nodes_of l) j) (expr_at (nodes_of l) k) → Two l i j k c
  unfolding held
  two i j k c h t e =
      let inside : k < length (nodes_of l) = omega (arith, t.second) in
      let f = (means k inside).fits.low in
      let g : j < length (nodes_of l) = omega (arith, t.first, t.second) in
      record {
        first_low = omega (arith, t.first, t.second);
        second_low = omega (arith, t.second);
        is = e;
        first_before = ap (letters_to (nodes_of l)) (sym t.start);
        second_before =
            ap (letters_to (nodes_of l)) (sym t.first) ∙ letters_at j g
            ∙ ap (λ (m : ℕ). letters_to (nodes_of l) m + letter_count (expr_at (nodes_of l) j)) (sym t.start);
      }

  made : (i : ℕ) → i < length (nodes_of l) → (s : Shape) → Shaped (nodes_of l) i (node (nodes_of l) i) s → expr_at (nodes_of l) i ≡ expr_by (expr_at (nodes_of l)) s → Made l i s
  unfolding held
  made i h (Letter c) t e = e
  made i h Empty t e = e
  made i h (Pair j k) t e = two i j k pair h t e
  made i h (Or j k) t e = two i j k or h t e
  made i h (Star j) t e = record { low = omega (arith, t.child); is = e; before = ap (letters_to (nodes_of l)) (sym t.start) }

  pub tells : (i : ℕ) → i < length (nodes_of l) → Tells l i (node (nodes_of l) i)
  tells i h = record { is = refl; made = made i h (node (nodes_of l) i).shape (means i h).fits.shaped (means i h).made; admits = admits_at i h; letters = letters_at i h }

  pub root_inside : last (nodes_of l) < length (nodes_of l)
  root_inside = omega (arith, l.whole.0)

  pub layout_whole : whole l ≡ expression_of l
  unfolding held
  layout_whole = refl

  pub whole_before : (held l (last (nodes_of l))).before ≡ 0
  unfolding held
  whole_before = ap (letters_to (nodes_of l)) l.whole.2

  -- The last node holds the whole expression.
  pub root_holds : held l (last (nodes_of l)) ≡ item 0 (whole l)
  root_holds = ap (λ (o : ℕ). item o (whole l)) whole_before

  pub places_are : places_of l ≡ letter_count (whole l)
  places_are = omega (arith, letters_at (last (nodes_of l)) root_inside, whole_before)

  pub whole_small : size (whole l) ≤ 255
  unfolding held
  whole_small = omega (arith, node_size l (last (nodes_of l)) root_inside, l.whole.0, l.whole.1)

-- How the part of a node is made, by the shape that was found.
pub made_as : {l : Layout} {i : ℕ} {n : Node} → Tells l i n → {s : Shape} → n.shape ≡ s → Made l i s
made_as {l} {i} {n} t q = subst (Made l i) q t.made
