-- An index of the rows of a list. This serves the proofs only.
use Rattle.std.specs.Prelude.{◌≡◌, ℕ, suc, ◌<◌, ◌≤◌, List, length, drop, ◌≢◌, slice_index}
use Rattle.std.specs.List.{All}
use Rattle.containment.specs.Rows.{Row, row_at, AllRanged}
use Rattle.containment.specs.Format.{flat, rows_of, most_numbers}

-- The numbers are those of rows whose places are 128 at most.
pub record Listed (rows : List Row) (ns : List ℕ) : Type 0 where
  pub flat : flat rows ≡ ns
  pub ranged : AllRanged 128 128 rows
  pub short : length ns ≤ most_numbers

-- Row n begins at index s.
abbrev pub Starts : List Row → List ℕ → ℕ → ℕ → Type 0
Starts rows ns n s = flat (drop n rows) ≡ drop s ns

-- Each place is 128 at most.
abbrev pub Low : List ℕ → Type 0
Low places = All (λ p. p < 129) places

-- j is the first row from i on whose place is f, or the number of rows if there is none.
pub record NextRow (rows : List Row) (f i j : ℕ) : Type 0 where
  pub low : i ≤ j
  pub high : j ≤ length rows
  pub none : (n : ℕ) → i ≤ n → n < j → (row_at rows n).place ≢ f
  pub here : j < length rows → (row_at rows j).place ≡ f

-- The table has the start of each row below number n.
abbrev pub AllStart : List Row → List ℕ → List ℕ → ℕ → Type 0
AllStart rows ns starts n = (i : ℕ) → i < n → Starts rows ns i (slice_index starts i)

-- The tables link the rows from number n on.
pub record Linked (rows : List Row) (nexts firsts : List ℕ) (n : ℕ) : Type 0 where
  pub next : (i : ℕ) → n ≤ i → i < length rows → NextRow rows (row_at rows i).place (suc i) (slice_index nexts i)
  pub first : (f : ℕ) → f < 129 → NextRow rows f n (slice_index firsts f)

-- The number of rows, their starts, in order, and the links of the rows of each place.
pub record Indexed (ns : List ℕ) (count : ℕ) (starts nexts firsts : List ℕ) : Type 0 where
  pub listed : Listed (rows_of ns) ns
  pub counted : count ≡ length (rows_of ns)
  pub few : count ≤ 8192
  pub marked : AllStart (rows_of ns) ns starts (length (rows_of ns))
  pub linked : Linked (rows_of ns) nexts firsts 0
