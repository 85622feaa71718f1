-- The turns of the first tree without letters, node by node.
use Rattle.std.proofs.Common.{◌≡◌, ℕ, suc, ◌+◌, ◌^◌, ◌<◌, ◌≤◌, ◌-◌, min, ◌⊎◌, Bool, true, false, ◌&&◌, ◌||◌, ltb, List, [], ◌∷◌, ◌++◌, length, get_or, set, Some, sym, refl, ap, ◌∙◌, inl, inr, arith, length-append, length-set, ltb-true, None, Option, is_some}
use Rattle.std.specs.Option.{option_map, option_or, unwrap_or}
use borrow.Author.Tests.{clash}
use native.Mathlib.Decide.{dec_lt}
use Rattle.std.proofs.lemmas.List.{get_or_read}
use Rattle.expression.specs.declared.layout.Layout.{Layout}
use Rattle.expression.specs.declared.node.Node.{Node}
use Rattle.expression.specs.declared.node.Shape.TheVariants.{Pair, Or}
use Rattle.expression.specs.Expressions.{Expr, letter, empty, pair, or, star, admits_empty}
use Rattle.expression.specs.Coming.{size}
use Rattle.expression.specs.Layouts.{nodes_of}
use Rattle.expression.specs.Nodes.{no_node, node, admits_at, expr_at}
use Rattle.expression.specs.Optional.{lift2}
use Rattle.expression.specs.Passing.{Put, Skips}
use Rattle.expression.specs.Search.{empty_tree}
use Rattle.expression.specs.Spelling.{empty_turns}
use Rattle.expression.specs.Trees.{Tree, both, left, right}
use Rattle.expression.specs.Turns.{turns}
use Rattle.expression.proofs.Finishing.{admits_is}
use Rattle.expression.proofs.Meaning.{layout_stands}
use Rattle.expression.proofs.Sizes.{node_size, made_as, lower_as}
use Rattle.expression.proofs.Writing.{written_append, length_written, written_after}

-- The turns of a tree, or none.
abbrev turns_of : Option Tree → List ℕ
turns_of o = unwrap_or (option_map turns o) []

turns_none : (o : Option Tree) → is_some o ≡ false → option_map turns o ≡ None
turns_none None h = refl
turns_none (Some t) h = absurd (clash (sym h))

turns_some : (o : Option Tree) → is_some o ≡ true → option_map turns o ≡ Some (turns_of o)
turns_some None h = absurd (clash h)
turns_some (Some t) h = refl

turns_both : (o p : Option Tree) → is_some o ≡ true → is_some p ≡ true → turns_of (lift2 both o p) ≡ turns_of o ++ turns_of p
turns_both None p h k = absurd (clash h)
turns_both (Some t) None h k = absurd (clash k)
turns_both (Some t) (Some u) h k = refl

turns_left : (o p : Option Tree) → is_some o ≡ true → turns_of (option_or (option_map left o) (option_map right p)) ≡ 0 ∷ turns_of o
turns_left None p h = absurd (clash h)
turns_left (Some t) p h = refl

turns_right : (o p : Option Tree) → is_some o ≡ false → is_some p ≡ true → turns_of (option_or (option_map left o) (option_map right p)) ≡ 1 ∷ turns_of p
turns_right (Some t) p h k = absurd (clash (sym h))
turns_right None None h k = absurd (clash k)
turns_right None (Some u) h k = refl

-- The turns of the first tree without letters, or none.
abbrev pub blank : Expr → List ℕ
blank e = turns_of (empty_tree e)

-- An expression that admits the empty word has a first tree without letters.
has_tree : {b : Bool} (e : Expr) → admits_empty e ≡ b → is_some (empty_tree e) ≡ b
has_tree e h = sym (admits_is e) ∙ h

pub blank_none : (e : Expr) → admits_empty e ≡ false → empty_turns e ≡ None
blank_none e h = turns_none (empty_tree e) (has_tree e h)

pub blank_some : (e : Expr) → admits_empty e ≡ true → empty_turns e ≡ Some (blank e)
blank_some e h = turns_some (empty_tree e) (has_tree e h)

both_true : (a b : Bool) → a && b ≡ true → (a ≡ true) × (b ≡ true)
both_true true b h = (refl, h)
both_true false b h = absurd (clash h)

-- There is at most one turn for each node.
abbrev few : Option Tree → ℕ → Type 0
few o n = length (turns_of o) ≤ n

few_both : (o p : Option Tree) (m n : ℕ) → few o m → few p n → few (lift2 both o p) (suc (m + n))
few_both None p m n h k = omega arith
few_both (Some t) None m n h k = omega arith
few_both (Some t) (Some u) m n h k = omega (arith, length-append (turns t) (turns u))

few_side : (o p : Option Tree) (m n : ℕ) → few o m → few p n → few (option_or (option_map left o) (option_map right p)) (suc (m + n))
few_side None None m n h k = omega arith
few_side None (Some u) m n h k = omega arith
few_side (Some t) p m n h k = omega arith

pub blank_few : (e : Expr) → length (blank e) ≤ size e
blank_few (letter a) = omega arith
blank_few empty = omega arith
blank_few (pair x y) = few_both (empty_tree x) (empty_tree y) (size x) (size y) (blank_few x) (blank_few y)
blank_few (or x y) = few_side (empty_tree x) (empty_tree y) (size x) (size y) (blank_few x) (blank_few y)
blank_few (star x) = omega arith

-- A place m past n, and the one that stands for it where numbers end, are the same or both past the end.
short_of : (n m : ℕ) (mid : List ℕ) → length mid < 2 ^ 64 → (min (n + m) (2 ^ 64 - 1) ≡ n + m) ⊎ ((length mid ≤ min (n + m) (2 ^ 64 - 1)) × (length mid ≤ n + m))
short_of n m mid h = elim (dec_lt (n + m) (2 ^ 64)) [ yes l ↦ inl (omega arith) | no f ↦ inr (omega (arith, f), omega (arith, f)) ]

-- The turns of node i, which reads `here`, from those of its children.
module _ (l : Layout) (i : ℕ) (s : Skips l i) (here : Node) (read : here ≡ node (nodes_of l) i) where
  abbrev expr : ℕ → Expr
  expr = expr_at (nodes_of l)

  told_at : (j : ℕ) → j ≤ i → admits_at (nodes_of l) j ≡ admits_empty (expr j)
  told_at j h = let k = s.inside in ((layout_stands l).means j (omega arith)).admits

  admits_i : admits_empty (expr i) ≡ true
  admits_i = sym (told_at i (omega arith)) ∙ s.admits

  -- A child that admits the empty word.
  child : (j : ℕ) → j < i → admits_empty (expr j) ≡ true → (j < i) × Skips l j
  child j h a = let k = s.inside in (h, record { inside = omega arith; admits = told_at j (omega arith) ∙ a })

  module _ {j k : ℕ} (p : here.shape ≡ Pair j k) where
    pair_admits : (admits_empty (expr j) ≡ true) × (admits_empty (expr k) ≡ true)
    pair_admits = both_true (admits_empty (expr j)) (admits_empty (expr k)) (sym (ap admits_empty (made_as l i s.inside here read p)) ∙ admits_i)

    pub skip_first : (j < i) × Skips l j
    skip_first = child j (lower_as l i s.inside here read p).0 pair_admits.0

    pub skip_second : (k < i) × Skips l k
    skip_second = child k (lower_as l i s.inside here read p).1 pair_admits.1

    pub put_pair : (n m r : ℕ) (buf mid buf' : List ℕ) → length buf < 2 ^ 64 → Put (blank (expr j)) n m buf mid → Put (blank (expr k)) (min (n + m) (2 ^ 64 - 1)) r mid buf' → Put (blank (expr i)) n (m + r) buf buf'
    put_pair n m r buf mid buf' h x y =
        let e : blank (expr i) ≡ blank (expr j) ++ blank (expr k) = ap blank (made_as l i s.inside here read p) ∙ turns_both (empty_tree (expr j)) (empty_tree (expr k)) (has_tree (expr j) pair_admits.0) (has_tree (expr k) pair_admits.1) in
        let w = written_append (blank (expr j)) (blank (expr k)) n buf in
        record {
          count = omega (arith, ap length e, length-append (blank (expr j)) (blank (expr k)), x.count, y.count);
          buffer = y.buffer ∙ written_after (blank (expr k)) n m _ mid (short_of n m mid (omega (arith, ap length x.buffer, length_written (blank (expr j)) n buf))) ∙ rw (x.count, x.buffer, e) (sym w);
        }

  -- The side j, to which the turn v leads, has the first tree without letters.
  pub record Side (j v : ℕ) : Type 0 where
    pub lower : j < i
    pub skips : Skips l j
    leads : blank (expr i) ≡ v ∷ blank (expr j)

  module _ {j k : ℕ} (p : here.shape ≡ Or j k) where
    either_admits : admits_empty (expr j) || admits_empty (expr k) ≡ true
    either_admits = sym (ap admits_empty (made_as l i s.inside here read p)) ∙ admits_i

    pub first_inside : j < length (nodes_of l)
    first_inside = let h = s.inside in let low = lower_as l i s.inside here read p in omega arith

    pub left_side : admits_at (nodes_of l) j ≡ true → Side j 0
    left_side q =
        let low = lower_as l i s.inside here read p in
        let a = sym (told_at j (omega arith)) ∙ q in
        record { lower = low.0; skips = (child j low.0 a).1; leads = ap blank (made_as l i s.inside here read p) ∙ turns_left (empty_tree (expr j)) (empty_tree (expr k)) (has_tree (expr j) a) }

    pub right_side : admits_at (nodes_of l) j ≡ false → Side k 1
    right_side q =
        let low = lower_as l i s.inside here read p in
        let a = sym (told_at j (omega arith)) ∙ q in
        let b = sym (ap (λ x. x || admits_empty (expr k)) a) ∙ either_admits in
        record { lower = low.1; skips = (child k low.1 b).1; leads = ap blank (made_as l i s.inside here read p) ∙ turns_right (empty_tree (expr j)) (empty_tree (expr k)) (has_tree (expr j) a) (has_tree (expr k) b) }

    pub put_side : (x v : ℕ) → Side x v → (n r : ℕ) (buf mid buf' : List ℕ) → length buf < 2 ^ 64 → mid ≡ set buf n v → Put (blank (expr x)) (min (n + 1) (2 ^ 64 - 1)) r mid buf' → Put (blank (expr i)) n (1 + r) buf buf'
    put_side x v s n r buf mid buf' h y p = record {
      count = omega (arith, ap length s.leads, p.count);
      buffer = p.buffer ∙ written_after (blank (expr x)) n 1 _ mid (short_of n 1 mid (omega (arith, ap length y, length-set buf n v))) ∙ rw (y, s.leads);
    }

-- The turns of a node count at most 255.
pub blank_small : (l : Layout) (i : ℕ) → Skips l i → (r : ℕ) → r ≡ length (blank (expr_at (nodes_of l) i)) → r < 256
blank_small l i s r e = omega (arith, blank_few (expr_at (nodes_of l) i), node_size l i s.inside, s.inside, l.whole.1)

-- What was read of node i, and what it tells of the first tree without letters.
module _ (l : Layout) (i : ℕ) (ns : List Node) (j : ℕ) (x : Node) (same : ns ≡ nodes_of l) (at : j ≡ i) (there : true ≡ ltb j (length ns)) (read : x ≡ get_or ns j x) where
  inside : i < length (nodes_of l)
  inside = rw (same, at) at (ltb-true j (length ns) (sym there))

  admits : x.admits ≡ admits_empty (expr_at (nodes_of l) i)
  admits =
      let r : x ≡ node (nodes_of l) i = get_or_read (nodes_of l) i x inside (rw (same, at) at read) no_node in
      ap (λ n. n.admits) r ∙ ((layout_stands l).means i inside).admits

  pub none_there : x.admits ≡ false → empty_turns (expr_at (nodes_of l) i) ≡ None
  none_there p = blank_none (expr_at (nodes_of l) i) (sym admits ∙ p)

  pub some_there : x.admits ≡ true → (r : ℕ) → r ≡ length (blank (expr_at (nodes_of l) i)) → Some r ≡ option_map length (empty_turns (expr_at (nodes_of l) i))
  some_there p r e = ap Some e ∙ sym (ap (option_map length) (blank_some (expr_at (nodes_of l) i) (sym admits ∙ p)))
