-- The laws of `rank`, and what they say of the order. No other proof sees what a rank is: another preference changes `rank` and this file.
use Rattle.std.proofs.Common.{◌≡◌, ◌<◌, ◌≤◌, true, false, refl, arith}
use Rattle.expression.specs.Expressions.{Expr, or}
use Rattle.expression.specs.Trees.{Tree, leaf, unit, both, left, right, end, more, has_letters}
use Rattle.expression.specs.Order.{rank, side, Before, by_rank, by_parts, PartsBefore, by_first, by_second, by_left, by_right, by_member, by_rest}

side_small : (t : Tree) → side t ≤ 1
side_small (leaf a) = omega arith
side_small unit = omega arith
side_small (both t u) = omega arith
side_small (left t) = omega arith
side_small (right t) = omega arith
side_small end = omega arith
side_small (more t u) = omega arith

-- A tree with letters ranks below one without.
letters_rank : (e : Expr) (t u : Tree) → has_letters t ≡ true → has_letters u ≡ false → rank e t < rank e u
letters_rank e t u p q = rw (p, q) (omega (arith, side_small t))

-- Of two trees of an or that are alike in having letters, left ranks below right.
sides_rank : (e f : Expr) (t u : Tree) → has_letters t ≡ has_letters u → rank (or e f) (left t) < rank (or e f) (right u)
sides_rank e f t u p = rw p (omega arith)

-- Two trees that their parts compare, and that are alike in having letters, are equal in rank.
parts_rank : {e : Expr} {t u : Tree} → PartsBefore e t u → has_letters t ≡ has_letters u → rank e t ≡ rank e u
parts_rank (by_first b) p = rw p refl
parts_rank (by_second q b) p = rw p refl
parts_rank (by_left b) p = rw p refl
parts_rank (by_right b) p = rw p refl
parts_rank (by_member b) p = rw p refl
parts_rank (by_rest q b) p = rw p refl

pub letters_before : {e : Expr} {t u : Tree} → has_letters t ≡ true → has_letters u ≡ false → Before e t u
letters_before {e} {t} {u} p q = by_rank (letters_rank e t u p q)

pub left_before : {e f : Expr} {t u : Tree} → has_letters t ≡ has_letters u → Before (or e f) (left t) (right u)
left_before {e} {f} {t} {u} p = by_rank (sides_rank e f t u p)

pub parts_before : {e : Expr} {t u : Tree} → has_letters t ≡ has_letters u → PartsBefore e t u → Before e t u
parts_before p b = by_parts (parts_rank b p) b
