-- Of two trees of one expression that differ, one stands before the other.
use Rattle.std.proofs.Common.{◌≡◌, Bool, true, false, sym, refl}
use Rattle.expression.specs.Expressions.{Expr, pair, or, star}
use Rattle.expression.specs.Trees.{Tree, both, left, right, more, TreeOf, is_leaf, is_unit, is_both, is_left, is_right, is_end, is_more, spells, has_letters}
use Rattle.expression.specs.Order.{Before, by_first, by_second, by_left, by_right, by_member, by_rest}
use Rattle.expression.proofs.Letters.{nonempty_left, alike}
use Rattle.expression.proofs.RankLaws.{letters_before, left_before, parts_before}

-- How two trees compare.
pub data Compared (e : Expr) (t u : Tree) : Type 0 where
  same : t ≡ u → Compared e t u
  before : Before e t u → Compared e t u
  after : Before e u t → Compared e t u

-- It is enough to compare trees that are alike in having letters.
settle : {e : Expr} (t u : Tree) → (has_letters t ≡ has_letters u → Compared e t u) → Compared e t u
settle {e} t u compared = go (has_letters t) (has_letters u) refl refl
  where
    go : (b c : Bool) → has_letters t ≡ b → has_letters u ≡ c → Compared e t u
    go true true p q = compared (alike p q)
    go true false p q = before (letters_before p q)
    go false true p q = after (letters_before q p)
    go false false p q = compared (alike p q)

pub total : {e : Expr} {t u : Tree} → TreeOf e t → TreeOf e u → Compared e t u
total is_leaf is_leaf = same refl
total is_unit is_unit = same refl
total (is_both {e = e} {f = f} {t = a} {u = b} h k) (is_both {t = c} {u = d} h' k') = settle (both a b) (both c d) (λ x. go x (total h h') (total k k'))
  where
    go : has_letters (both a b) ≡ has_letters (both c d) → Compared e a c → Compared f b d → Compared (pair e f) (both a b) (both c d)
    go x (before p) z = before (parts_before x (by_first p))
    go x (after p) z = after (parts_before (sym x) (by_first p))
    go x (same p) (same q) = same (cc)
    go x (same p) (before q) = before (parts_before x (by_second p q))
    go x (same p) (after q) = after (parts_before (sym x) (by_second (sym p) q))
total (is_left {e = e} {f = f} {t = a} h) (is_left {t = b} k) = settle (left a) (left b) (λ x. go x (total h k))
  where
    go : has_letters a ≡ has_letters b → Compared e a b → Compared (or e f) (left a) (left b)
    go x (same p) = same (cc)
    go x (before p) = before (parts_before x (by_left p))
    go x (after p) = after (parts_before (sym x) (by_left p))
total (is_left {t = a} h) (is_right {t = b} k) = settle (left a) (right b) (λ x. before (left_before x))
total (is_right {t = a} h) (is_left {t = b} k) = settle (right a) (left b) (λ x. after (left_before (sym x)))
total (is_right {e = e} {f = f} {t = a} h) (is_right {t = b} k) = settle (right a) (right b) (λ x. go x (total h k))
  where
    go : has_letters a ≡ has_letters b → Compared f a b → Compared (or e f) (right a) (right b)
    go x (same p) = same (cc)
    go x (before p) = before (parts_before x (by_right p))
    go x (after p) = after (parts_before (sym x) (by_right p))
total is_end is_end = same refl
total is_end (is_more {t = a} {u = b} h x k) = after (letters_before (nonempty_left (spells a) (spells b) x) refl)
total (is_more {t = a} {u = b} h x k) is_end = before (letters_before (nonempty_left (spells a) (spells b) x) refl)
total (is_more {e = e} {t = a} {u = b} h y k) (is_more {t = c} {u = d} h' y' k') = settle (more a b) (more c d) (λ x. go x (total h h') (total k k'))
  where
    go : has_letters (more a b) ≡ has_letters (more c d) → Compared e a c → Compared (star e) b d → Compared (star e) (more a b) (more c d)
    go x (before p) z = before (parts_before x (by_member p))
    go x (after p) z = after (parts_before (sym x) (by_member p))
    go x (same p) (same q) = same (cc)
    go x (same p) (before q) = before (parts_before x (by_rest p q))
    go x (same p) (after q) = after (parts_before (sym x) (by_rest (sym p) q))
