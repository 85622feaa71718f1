-- What the two passes over the nodes find out for one letter. This serves the proofs only.
use Rattle.std.specs.Prelude.{◌≡◌, ℕ, suc, ◌+◌, ◌<◌, ◌≤◌, Bool, false, ◌&&◌, ◌||◌, List, [], ◌∷◌, map, ◌==◌, slice_index, slice_index_or}
use Rattle.expression.specs.Expressions.{Expr, letter, empty, pair, or, star, admits_empty}
use Rattle.expression.specs.Places.{letter_count, Item, item, continuations, finishes}
use Rattle.expression.specs.declared.layout.Layout.{Layout}
use Rattle.matching.specs.Holding.{held}
use Rattle.matching.specs.Rows.{bit}

-- May the letter a be the first of e, if `next` tells which places can finish the letters after it? Before e stand o letters.
abbrev pub enters : ℕ → (ℕ → Bool) → ℕ → Expr → Bool
enters a next o (letter c) = a == c && next (suc o)
enters a next o empty = false
enters a next o (pair e f) = enters a next o e || (admits_empty e && enters a next (o + letter_count e) f)
enters a next o (or e f) = enters a next o e || enters a next (o + letter_count e) f
enters a next o (star e) = enters a next o e

-- The same of a part.
abbrev pub enters_in : ℕ → (ℕ → Bool) → Item → Bool
enters_in a next x = enters a next x.before x.expr

-- May it be the first of one of the items, past items without letters, or come after them all, where `on` tells of that?
abbrev pub reaches : ℕ → (ℕ → Bool) → List Item → Bool → Bool
reaches a next [] on = on
reaches a next (x ∷ k) on = enters_in a next x || (admits_empty x.expr && reaches a next k on)

-- What the byte of place p says in a row.
abbrev pub usable : List ℕ → ℕ → Bool
usable bytes p = slice_index bytes p == 1

-- Of each node below i it is told whether the letter a may be the first one in it, where the row `next` tells of the letters after it.
abbrev pub Entries : Layout → ℕ → List ℕ → List Bool → ℕ → Type 0
Entries l a next told i = (j : ℕ) → j < i → slice_index_or told j false ≡ enters_in a (usable next) (held l j)

-- The work bytes of places, by what is to come after each, where `on` tells of what comes after that.
abbrev pub bits : ℕ → (ℕ → Bool) → Bool → List (List Item) → List ℕ
bits a next on ks = map (λ k. bit (reaches a next k on)) ks

-- The work bytes of the places inside a part.
abbrev pub bits_in : ℕ → (ℕ → Bool) → Bool → Item → List ℕ
bits_in a next on x = bits a next on (continuations x.before x.expr [])

-- What is to come after each place of e.
abbrev pub afters : Expr → List (List Item)
afters e = (item 0 e ∷ []) ∷ continuations 0 e []

-- The bytes begin with the row of the letters w.
abbrev pub RowAt : Expr → List ℕ → List ℕ → Type 0
RowAt e w bytes = (p : ℕ) → p ≤ letter_count e → slice_index bytes p ≡ bit (finishes e w p)
