-- The order of trees is strict and transitive, whatever the rank.
use Rattle.std.proofs.Common.{◌≡◌, refl, ap, ◌∙◌, arith}
use Rattle.expression.specs.Expressions.{Expr}
use Rattle.expression.specs.Trees.{Tree}
use Rattle.expression.specs.Order.{rank, Before, by_rank, by_parts, PartsBefore, by_first, by_second, by_left, by_right, by_member, by_rest}

mutual
  pub irreflexive : {e : Expr} {t u : Tree} → Before e t u → t ≡ u → ⊥
  irreflexive (by_rank {e = e} p) q = let r = ap (rank e) q in omega arith
  irreflexive (by_parts p b) q = parts_irreflexive b q

  parts_irreflexive : {e : Expr} {t u : Tree} → PartsBefore e t u → t ≡ u → ⊥
  parts_irreflexive (by_first b) q = irreflexive b (cc)
  parts_irreflexive (by_second p b) q = irreflexive b (cc)
  parts_irreflexive (by_left b) q = irreflexive b (cc)
  parts_irreflexive (by_right b) q = irreflexive b (cc)
  parts_irreflexive (by_member b) q = irreflexive b (cc)
  parts_irreflexive (by_rest p b) q = irreflexive b (cc)

mutual
  pub transitive : {e : Expr} {t u v : Tree} → Before e t u → Before e u v → Before e t v
  transitive (by_rank p) (by_rank q) = by_rank (omega arith)
  transitive (by_rank p) (by_parts q b) = by_rank (omega arith)
  transitive (by_parts p a) (by_rank q) = by_rank (omega arith)
  transitive (by_parts p a) (by_parts q b) = by_parts (p ∙ q) (parts_transitive a b)

  parts_transitive : {e : Expr} {t u v : Tree} → PartsBefore e t u → PartsBefore e u v → PartsBefore e t v
  parts_transitive (by_first a) (by_first b) = by_first (transitive a b)
  parts_transitive (by_first a) (by_second q b) = by_first (rw q at a)
  parts_transitive (by_second p a) (by_first b) = by_first (rw p b)
  parts_transitive (by_second p a) (by_second q b) = by_second (p ∙ q) (transitive a b)
  parts_transitive (by_left a) (by_left b) = by_left (transitive a b)
  parts_transitive (by_right a) (by_right b) = by_right (transitive a b)
  parts_transitive (by_member a) (by_member b) = by_member (transitive a b)
  parts_transitive (by_member a) (by_rest q b) = by_member (rw q at a)
  parts_transitive (by_rest p a) (by_member b) = by_member (rw p b)
  parts_transitive (by_rest p a) (by_rest q b) = by_rest (p ∙ q) (transitive a b)

pub asymmetric : {e : Expr} {t u : Tree} → Before e t u → Before e u t → ⊥
asymmetric b c = irreflexive (transitive b c) refl
