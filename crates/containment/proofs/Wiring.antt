-- The nodes of every layout hang together.
use Rattle.std.proofs.Common.{◌≡◌, ℕ, zero, suc, ◌+◌, ◌<◌, ◌≤◌, List, length, sym, refl, ap, ◌∙◌, arith}
use Rattle.expression.specs.declared.layout.Layout.{Layout}
use Rattle.expression.specs.declared.node.Node.{Node}
use Rattle.expression.specs.declared.node.Shape.{Shape}
use Rattle.expression.specs.declared.node.Shape.TheVariants.{Letter, Empty, Pair, Or, Star}
use Rattle.expression.specs.declared.raw.RawNode.{RawNode}
use Rattle.expression.specs.Expressions.{Expr, pair, or}
use Rattle.expression.specs.Fitted.{Shaped, letters_to}
use Rattle.expression.specs.Fitted as fitted
use Rattle.expression.specs.Layouts.{nodes_of, table_of, Means}
use Rattle.expression.specs.Nodes.{node, last, raw_shape, expr_by, expr_at}
use Rattle.expression.specs.Places as places
use Rattle.expression.specs.Tables.{letter_count, letters_below, Part, part_letter, part_empty, part_pair, part_or, part_star}
use Rattle.expression.proofs.Meaning.{layout_stands}
use Rattle.containment.specs.Wiring.{before, Two, Local, Wired}

-- The letters of a part.
part_letters : (ts : List RawNode) {a b : ℕ} {e : Expr} → Part ts a b e → letters_below ts b ≡ letters_below ts a + places.letter_count e
part_letters ts (part_letter q) = rw q
part_letters ts (part_empty q) = rw q
part_letters ts (part_pair p r q) = let u = part_letters ts p in let v = part_letters ts r in rw q (omega arith)
part_letters ts (part_or p r q) = let u = part_letters ts p in let v = part_letters ts r in rw q (omega arith)
part_letters ts (part_star p q) = let u = part_letters ts p in rw q (omega arith)

module _ (l : Layout) where
  abbrev ns : List Node
  ns = nodes_of l

  abbrev ts : List RawNode
  ts = table_of l

  means : (i : ℕ) → i < length ns → Means l i
  means = (layout_stands l).means

  letters_same : (i : ℕ) → i ≤ length ns → letters_to ns i ≡ letters_below ts i
  letters_same zero h = refl
  letters_same (suc i) h = (means i h).letters

  -- Just after its part stand a node's letters.
  after : (i : ℕ) → i < length ns → (node ns i).letters ≡ before ns i + places.letter_count (expr_at ns i)
  after i h =
      (means i h).letters ∙ part_letters ts (means i h).part
      ∙ ap (λ k. k + places.letter_count (expr_at ns i)) (sym (letters_same (node ns i).start (let b = (means i h).fits.low in omega arith)))

  two : (join : Expr → Expr → Expr) (i j k : ℕ) → i < length ns → fitted.Two ns i (node ns i) j k
      → expr_at ns i ≡ join (expr_at ns j) (expr_at ns k) → Two join ns i j k
  two join i j k h t e =
      let lo : k < i = omega (arith, t.second) in
      let b = (means k (omega arith)).fits.low in
      let first : j < i = omega (arith, t.first) in
      record {
        expr = e;
        first = first;
        second = lo;
        same = ap (letters_to ns) (sym t.start);
        next = ap (letters_to ns) (sym t.first) ∙ after j (omega arith) ∙ ap (λ o. letters_to ns o + places.letter_count (expr_at ns j)) (sym t.start);
      }

  local_by : (i : ℕ) → i < length ns → (s : Shape) → (node ns i).shape ≡ s → Shaped ns i (node ns i) s → expr_at ns i ≡ expr_by (expr_at ns) s → Local ns i s
  local_by i h (Letter c) s t e =
      let f = (means i h).fits in
      let one : letter_count (raw_shape (node ns i).shape) ≡ 1 = ap (λ v. letter_count (raw_shape v)) s in
      record { expr = e; place = omega (arith, f.letters, one, ap (letters_to ns) t); few = f.few }
  local_by i h Empty s t e = e
  local_by i h (Pair j k) s t e = two pair i j k h t e
  local_by i h (Or j k) s t e = two or i j k h t e
  local_by i h (Star j) s t e =
      record { expr = e; child = omega (arith, t.child); same = ap (letters_to ns) (sym t.start) }

  pub wired : Wired ns
  wired =
      let k : last ns < length ns = omega (arith, l.whole.0) in
      let root : before ns (last ns) ≡ 0 = ap (letters_to ns) l.whole.2 in
      let count : (node ns (last ns)).letters ≡ places.letter_count (expr_at ns (last ns)) = after (last ns) k ∙ omega arith in
      record {
        some = l.whole.0;
        short = l.whole.1;
        local = λ i h. local_by i h (node ns i).shape refl (means i h).fits.shaped (means i h).made;
        admits = λ i h. (means i h).admits;
        root = root;
        places = count;
        few = omega (arith, (means (last ns) k).fits.few);
      }
