-- The steps of the two passes.
use Rattle.std.proofs.Common.{◌≡◌, ℕ, zero, suc, ◌+◌, ◌<◌, Bool, true, false, cond, ◌&&◌, ◌||◌, eqb, List, length, get_or, set as put, replicate, sym, refl, ap, ◌∙◌, ap₂, arith, length-set, get_or-set_other, get_or-set_same, subst, eq-eqb, ne_eqb, below_more}
use mathlib.Core.Bool.{or-false, or-true}
use native.Mathlib.Decide.{ℕ_discrete}
use Rattle.expression.specs.declared.layout.Layout.{Layout}
use Rattle.expression.specs.declared.node.Node.{Node}
use Rattle.expression.specs.declared.node.Shape.{Shape}
use Rattle.expression.specs.declared.node.Shape.TheVariants.{Letter, Empty, Pair, Or, Star}
use Rattle.expression.specs.Expressions.{Expr, pair, or}
use Rattle.expression.specs.Layouts.{nodes_of}
use Rattle.expression.specs.Nodes.{node, last, expr_at}
use Rattle.expression.specs.Places.{letter_count}
use Rattle.containment.specs.Passes.{closes_by, Closing, Spread, Coded, AllCoded, ComesAfter}
use Rattle.containment.specs.Stepping.{marked, closes, comes, coded}
use Rattle.containment.specs.Wiring.{before, whole, Leaf, Two, Local, Wired}
use Rattle.containment.proofs.Wiring.{wired}
use Rattle.containment.proofs.Stepping.{ends_are, follow_are, codes_are}

-- A table of one value only.
pub blank : {A : Type 0} (d : A) (n q : ℕ) → get_or (replicate n d) q d ≡ d
blank d zero q = refl
blank d (suc n) zero = refl
blank d (suc n) (suc q) = blank d n q

-- A letter that was read: what it puts into a table at its place.
module _ (ns : List Node) (w : Wired ns) (i : ℕ) (lt : i < length ns) (c at : ℕ) (e : (node ns i).shape ≡ Letter c) (is : at ≡ (node ns i).letters) where
  leaf : Leaf ns i c
  leaf = subst (Local ns i) e (w.local i lt)

  place : at ≡ suc (before ns i)
  place = is ∙ leaf.place

  pub coded_letter : (out : List ℕ) → length out ≡ 129 → Coded ns i out (put out at c)
  coded_letter out long q =
      elim (ℕ_discrete q at) [
        | yes same ↦
            ap (λ k. get_or (put out at c) k 0) same ∙ get_or-set_same out at c 0 (let few = leaf.few in omega arith)
            ∙ sym (ap (λ x. coded (before ns i) x q (get_or out q 0)) leaf.expr ∙ ap (λ t. cond t c (get_or out q 0)) (eq-eqb q (suc (before ns i)) (same ∙ place)))
        | no other ↦
            get_or-set_other out at q c 0 other
            ∙ sym (ap (λ x. coded (before ns i) x q (get_or out q 0)) leaf.expr ∙ ap (λ t. cond t c (get_or out q 0)) (ne_eqb q (suc (before ns i)) (λ s. other (s ∙ sym place))))
      ]

  pub spread_letter : (set out : List Bool) (r : Bool) → r ≡ true → length out ≡ 129 → Spread ns set i r out (put out at true)
  spread_letter set out r yes_r long q =
      elim (ℕ_discrete q at) [
        | yes same ↦
            ap (marked (put out at true)) same ∙ get_or-set_same out at true false (let few = leaf.few in omega arith)
            ∙ sym (ap (λ x. marked out q || comes (marked set) (before ns i) x r q) leaf.expr ∙ ap (λ t. marked out q || (t && eqb q (suc (before ns i)))) yes_r ∙ ap (λ t. marked out q || t) (eq-eqb q (suc (before ns i)) (same ∙ place)) ∙ or-true (marked out q))
        | no other ↦
            get_or-set_other out at q true false other
            ∙ sym (ap (λ x. marked out q || comes (marked set) (before ns i) x r q) leaf.expr ∙ ap (λ t. marked out q || (t && eqb q (suc (before ns i)))) yes_r ∙ ap (λ t. marked out q || t) (ne_eqb q (suc (before ns i)) (λ s. other (s ∙ sym place))) ∙ or-false (marked out q))
      ]

module _ (ns : List Node) (w : Wired ns) (set closing : List Bool) where
  module _ (i : ℕ) (lt : i < length ns) (below : Closing ns set closing i) where
    closes_two : (join : Expr → Expr → Expr) (j k : ℕ) → Two join ns i j k
        → (marked closing j ≡ closes (marked set) (before ns i) (expr_at ns j))
        × (marked closing k ≡ closes (marked set) (before ns i + letter_count (expr_at ns j)) (expr_at ns k))
    closes_two join j k t = (
      below j t.first ∙ ap (λ o. closes (marked set) o (expr_at ns j)) t.same,
      below k t.second ∙ ap (λ o. closes (marked set) o (expr_at ns k)) t.next,
    )

    closes_local : (s : Shape) → Local ns i s → closes_by ns set closing (node ns i).letters s ≡ closes (marked set) (before ns i) (expr_at ns i)
    closes_local (Letter c) t = ap (marked set) t.place ∙ sym (ap (closes (marked set) (before ns i)) t.expr)
    closes_local Empty t = sym (ap (closes (marked set) (before ns i)) t)
    closes_local (Pair j k) t =
        let (p, q) = closes_two pair j k t in
        let e = w.admits k (let l = t.second in omega arith) in
        (λ x. q x || (e x && p x)) ∙ sym (ap (closes (marked set) (before ns i)) t.expr)
    closes_local (Or j k) t =
        let (p, q) = closes_two or j k t in
        ap₂ ◌||◌ p q ∙ sym (ap (closes (marked set) (before ns i)) t.expr)
    closes_local (Star j) t =
        below j t.child ∙ ap (λ o. closes (marked set) o (expr_at ns j)) t.same ∙ sym (ap (closes (marked set) (before ns i)) t.expr)

    pub closing_more : (v : Bool) → length closing ≡ 256 → v ≡ closes_by ns set closing (node ns i).letters (node ns i).shape → (j : ℕ) → j ≡ i
        → (length (put closing j v) ≡ 256) × Closing ns set (put closing j v) (i + 1)
    closing_more v long e j is =
        let short = w.short in (
          length-set closing j v ∙ long,
          below_more _ _ (λ k h. get_or-set_other closing j k v false (omega arith) ∙ below k h)
              (ap (marked (put closing j v)) (sym is) ∙ get_or-set_same closing j v false (omega arith) ∙ e ∙ closes_local (node ns i).shape (w.local i lt)),
        )

-- The result of and_from passes, where L and k are the layout and its last node as they were read.
module _ (l L : Layout) (eL : L ≡ l) (k : ℕ) (ek : k ≡ last (nodes_of l)) where
  abbrev ns : List Node
  ns = nodes_of l

  moved : (P : Layout → ℕ → Type 0) → P L k → P l (last ns)
  moved P p = subst (P l) ek (subst (λ v. P v k) eL p)

  pub after_is : (set closing follow : List Bool) → Closing ns set closing (length ns)
      → (Closing (nodes_of L) set closing (length (nodes_of L)) → Spread (nodes_of L) set k (marked set 0) (replicate 129 false) follow)
      → (n : Node) → n ≡ node (nodes_of L) k → (j : ℕ) → j ≡ k
      → (ends : Bool) → ends ≡ (marked set 0 && n.admits) || marked closing j → ComesAfter ns set (record { ends = ends; follow = follow })
  after_is set closing follow c spread n is j ej ends e =
      let w = wired l in
      let some = w.some in
      let lt : last ns < length ns = omega arith in
      let s : Spread ns set (last ns) (marked set 0) (replicate 129 false) follow = moved (λ v i. Spread (nodes_of v) set i (marked set 0) (replicate 129 false) follow) (spread (subst (λ v. Closing (nodes_of v) set closing (length (nodes_of v))) (sym eL) c)) in
      let here : n ≡ node ns (last ns) = moved (λ v i. n ≡ node (nodes_of v) i) is in
      record {
        ends = e ∙ (λ x. (marked set 0 && (here x).admits) || marked closing ((ej ∙ ek) x))
            ∙ (λ x. (marked set 0 && w.admits (last ns) lt x) || (c (last ns) lt ∙ ap (λ o. closes (marked set) o (whole ns)) w.root) x) ∙ ends_are (marked set) (whole ns);
        follow = λ q.
            s q ∙ ap₂ (λ b o. b || comes (marked set) o (whole ns) (marked set 0) q) (blank false 129 q) w.root ∙ follow_are (marked set) (whole ns) q;
      }

  pub codes_is : (out : List ℕ) → Coded (nodes_of L) k (replicate 129 0) out → AllCoded ns out
  codes_is out c q =
      moved (λ v i. Coded (nodes_of v) i (replicate 129 0) out) c q ∙ ap₂ (λ o d. coded o (whole ns) q d) (wired l).root (blank 0 129 q) ∙ codes_are (whole ns) q
