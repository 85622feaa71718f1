-- Rows: each ties a place of the earlier expression to a set of places of the later one.
use Rattle.std.specs.Prelude.{◌≡◌, ℕ, suc, ◌≤◌, ◌⊎◌, List, [], ◌∷◌, slice_index_or}
use Prim.{Unit}

pub record Row : Type 0 where
  pub place : ℕ
  pub set : List ℕ

abbrev pub row : ℕ → List ℕ → Row
row p s = record { place = p; set = s }

-- The row with number n; past the end, the place 0 with no set.
abbrev pub row_at : List Row → ℕ → Row
row_at rows n = slice_index_or rows n (row 0 [])

-- x stands in the list.
abbrev pub Among : {A : Type 0} → A → List A → Type 0
Among x [] = ⊥
Among x (y ∷ l) = (x ≡ y) ⊎ Among x l

-- The list rises strictly, from `least` on, and does not pass `most`.
abbrev pub Rises : ℕ → ℕ → List ℕ → Type 0
Rises least most [] = Unit {0}
Rises least most (q ∷ l) = (least ≤ q) × (q ≤ most) × Rises (suc q) most l

-- The row's place is one of 0 to m, and its set rises and is of places 0 to k.
pub record Ranged (m k : ℕ) (r : Row) : Type 0 where
  pub place : r.place ≤ m
  pub set : Rises 0 k r.set

abbrev pub AllRanged : ℕ → ℕ → List Row → Type 0
AllRanged m k rows = (r : Row) → Among r rows → Ranged m k r
