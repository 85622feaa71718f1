-- What comes after a set of places, computed part by part. This serves the proofs only.
-- A set of places is a table of tests; o letters stand before the part e.
use Rattle.std.specs.Prelude.{ℕ, suc, ◌+◌, Bool, false, if◌then◌else◌, ◌&&◌, ◌||◌, List, ◌==◌, slice_index_or}
use Rattle.std.specs.List.{range_with_len}
use Rattle.expression.specs.Expressions.{Expr, letter, empty, pair, or, star, admits_empty}
use Rattle.expression.specs.Members.{any}
use Rattle.expression.specs.Places.{letter_count, follows, may_end}

-- Is p in the set?
abbrev pub marked : List Bool → ℕ → Bool
marked set p = slice_index_or set p false

-- May some place of the set be the last of a word of e?
abbrev pub closes : (ℕ → Bool) → ℕ → Expr → Bool
closes s o (letter a) = s (suc o)
closes s o empty = false
closes s o (pair x y) = closes s (o + letter_count x) y || (admits_empty y && closes s o x)
closes s o (or x y) = closes s o x || closes s (o + letter_count x) y
closes s o (star x) = closes s o x

-- Does place q of e come next, after a place of the set inside e or, if r, as the first of a word of e?
abbrev pub comes : (ℕ → Bool) → ℕ → Expr → Bool → ℕ → Bool
comes s o (letter a) r q = r && q == suc o
comes s o empty r q = false
comes s o (pair x y) r q = comes s o x r q || comes s (o + letter_count x) y ((r && admits_empty x) || closes s o x) q
comes s o (or x y) r q = comes s o x r q || comes s (o + letter_count x) y r q
comes s o (star x) r q = comes s o x (r || closes s o x) q

-- The code of place q of e, or d where q is no place of e.
abbrev pub coded : ℕ → Expr → ℕ → ℕ → ℕ
coded o (letter a) q d = if q == suc o then a else d
coded o empty q d = d
coded o (pair x y) q d = coded (o + letter_count x) y q (coded o x q d)
coded o (or x y) q d = coded (o + letter_count x) y q (coded o x q d)
coded o (star x) q d = coded o x q d

-- The places of an expression.
abbrev pub places : Expr → List ℕ
places e = range_with_len 0 (suc (letter_count e))

-- May one of the set end?
abbrev pub some_end : Expr → List Bool → Bool
some_end e set = any (λ p. marked set p && may_end e p) (places e)

-- Does q follow one of the set?
abbrev pub some_follow : Expr → List Bool → ℕ → Bool
some_follow e set q = any (λ p. marked set p && follows e p q) (places e)
