-- Which of two trees of one expression stands before the other, and the first tree of a word.
use Rattle.std.specs.Prelude.{◌≡◌, ℕ, ◌+◌, ◌*◌, ◌<◌, if◌then◌else◌, ◌⊎◌, List}
use Rattle.expression.specs.Expressions.{Expr, pair, or, star}
use Rattle.expression.specs.Trees.{Tree, leaf, unit, both, left, right, end, more, has_letters}
use Rattle.expression.specs.Words.{Parse}

-- 1 on the right side of an or; 0 on its left side, and in every other tree.
abbrev pub side : Tree → ℕ
side (leaf a) = 0
side unit = 0
side (both t u) = 0
side (left t) = 0
side (right t) = 1
side end = 0
side (more t u) = 0

-- The rank of a tree at its node: one with letters ranks below one without, and of two that are alike in this, left ranks below right.
abbrev pub rank : Expr → Tree → ℕ
rank e t = 2 * (if has_letters t then 0 else 1) + side t

mutual
  -- Of two trees of one node the lower in rank stands before; of two that are equal in rank, the one whose parts do.
  pub data Before : Expr → Tree → Tree → Type 0 where
    by_rank : {e : Expr} {t u : Tree} → rank e t < rank e u → Before e t u
    by_parts : {e : Expr} {t u : Tree} → rank e t ≡ rank e u → PartsBefore e t u → Before e t u

  -- The parts of a pair in order, a list's first member and then the rest, the tree below an or: the first parts that differ decide.
  pub data PartsBefore : Expr → Tree → Tree → Type 0 where
    by_first : {e f : Expr} {t t' u u' : Tree} → Before e t t' → PartsBefore (pair e f) (both t u) (both t' u')
    by_second : {e f : Expr} {t t' u u' : Tree} → t ≡ t' → Before f u u' → PartsBefore (pair e f) (both t u) (both t' u')
    by_left : {e f : Expr} {t t' : Tree} → Before e t t' → PartsBefore (or e f) (left t) (left t')
    by_right : {e f : Expr} {t t' : Tree} → Before f t t' → PartsBefore (or e f) (right t) (right t')
    by_member : {e : Expr} {t t' u u' : Tree} → Before e t t' → PartsBefore (star e) (more t u) (more t' u')
    by_rest : {e : Expr} {t t' u u' : Tree} → t ≡ t' → Before (star e) u u' → PartsBefore (star e) (more t u) (more t' u')

-- The first tree of e that spells w: it stands before each other one.
pub record First (e : Expr) (w : List ℕ) (t : Tree) : Type 0 where
  pub parse : Parse e w t
  pub leads : (u : Tree) → Parse e w u → (t ≡ u) ⊎ Before e t u
