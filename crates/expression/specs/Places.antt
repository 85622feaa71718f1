-- Places: the letters of an expression from left to right are places 1, 2 and so on; place 0 is before any letter.
use Rattle.std.specs.Prelude.{ℕ, suc, ◌+◌, Bool, true, if◌then◌else◌, ◌&&◌, List, [], ◌∷◌, ◌++◌, ◌==◌, nat_eq, slice_index, slice_index_or}
use Rattle.expression.specs.Expressions.{Expr, letter, empty, pair, or, star, admits_empty}
use Rattle.expression.specs.Members.{any}

-- How many letters, and so places, an expression has.
abbrev pub letter_count : Expr → ℕ
letter_count (letter a) = 1
letter_count empty = 0
letter_count (pair e f) = letter_count e + letter_count f
letter_count (or e f) = letter_count e + letter_count f
letter_count (star e) = letter_count e

-- The codes of the letters, in order.
abbrev pub codes : Expr → List ℕ
codes (letter a) = a ∷ []
codes empty = []
codes (pair e f) = codes e ++ codes f
codes (or e f) = codes e ++ codes f
codes (star e) = codes e

-- The code of the letter at a place.
abbrev pub code : Expr → ℕ → ℕ
code e p = slice_index (0 ∷ codes e) p

-- A part of a larger expression, with the number of letters that stand before it.
pub record Item : Type 0 where
  pub before : ℕ
  pub expr : Expr

abbrev pub item : ℕ → Expr → Item
item o e = record { before = o; expr = e }

-- The expressions of a list of parts.
abbrev pub exprs : List Item → List Expr
exprs [] = []
exprs (x ∷ k) = x.expr ∷ exprs k

-- What is to come after each letter of e, in order, where o letters stand before e and k is to come after it.
abbrev pub continuations : ℕ → Expr → List Item → List (List Item)
continuations o (letter a) k = k ∷ []
continuations o empty k = []
continuations o (pair e f) k = continuations o e (item (o + letter_count e) f ∷ k) ++ continuations (o + letter_count e) f k
continuations o (or e f) k = continuations o e k ++ continuations (o + letter_count e) f k
continuations o (star e) k = continuations o e (item o (star e) ∷ k)

-- What is to come after a place: after place 0, the whole expression.
abbrev pub continuation : Expr → ℕ → List Item
continuation e p = slice_index_or ((item 0 e ∷ []) ∷ continuations 0 e []) p []

-- Is it one of each item?
abbrev pub all_admit_empty : List Item → Bool
all_admit_empty [] = true
all_admit_empty (x ∷ k) = admits_empty x.expr && all_admit_empty k

-- The places of the letters with which a word of e may begin, where o letters stand before e.
abbrev pub heads : ℕ → Expr → List ℕ
heads o (letter a) = suc o ∷ []
heads o empty = []
heads o (pair e f) = heads o e ++ (if admits_empty e then heads (o + letter_count e) f else [])
heads o (or e f) = heads o e ++ heads (o + letter_count e) f
heads o (star e) = heads o e

-- The heads of a list of items: of the first, and past items that admit the empty word.
abbrev pub all_heads : List Item → List ℕ
all_heads [] = []
all_heads (x ∷ k) = heads x.before x.expr ++ (if admits_empty x.expr then all_heads k else [])

-- The places that follow a place.
abbrev pub followers : Expr → ℕ → List ℕ
followers e p = all_heads (continuation e p)

-- Does place q follow place p?
abbrev pub follows : Expr → ℕ → ℕ → Bool
follows e p q = any (nat_eq q) (followers e p)

-- May a word end at place p?
abbrev pub may_end : Expr → ℕ → Bool
may_end e p = all_admit_empty (continuation e p)

-- Can place p finish these letters? With none, if it may end; else if a place with the first letter follows it that can finish the others.
abbrev pub finishes : Expr → List ℕ → ℕ → Bool
finishes e [] p = may_end e p
finishes e (a ∷ w) p = any (λ q. (a == code e q) && finishes e w q) (followers e p)
