-- Rows as one list of numbers: of each row its place, how many places its set has, and those places.
use Rattle.std.specs.Prelude.{◌≡◌, ℕ, zero, suc, ◌+◌, ◌<◌, ◌≤◌, Bool, true, false, if◌then◌else◌, ◌&&◌, ◌⊎◌, ◌↔◌, List, [], ◌∷◌, ◌++◌, length, take, drop, Some, None, Option, ◌≢◌, nat_le, slice_index}
use Rattle.containment.specs.declared.want.Want.{Want}
use Rattle.containment.specs.declared.want.Want.TheVariants.{Place, Size, Member}
use Rattle.containment.specs.Rows.{Row, row, AllRanged}

-- The numbers of rows.
abbrev pub flat : List Row → List ℕ
flat [] = []
flat (r ∷ rows) = r.place ∷ length r.set ∷ (r.set ++ flat rows)

-- At most n rows, read off a list of numbers.
abbrev pub read_rows : ℕ → List ℕ → List Row
read_rows zero ns = []
read_rows (suc n) [] = []
read_rows (suc n) (p ∷ []) = []
read_rows (suc n) (p ∷ c ∷ ns) = row p (take c ns) ∷ read_rows n (drop c ns)

-- The rows of a list of numbers.
unfoldable pub rows_of : List ℕ → List Row
rows_of ns = read_rows (length ns) ns

-- The most numbers that a list may have.
abbrev pub most_numbers : ℕ
most_numbers = 16384

-- A well-formed list is that of one row or more, all in range, and has at most 16,384 numbers.
pub record Formed (m k : ℕ) (rows : List Row) (ns : List ℕ) : Type 0 where
  pub flat : flat rows ≡ ns
  pub ranged : AllRanged m k rows
  pub some : 0 < length rows
  pub short : length ns ≤ most_numbers

-- `left` places are wanted, from `least` on.
abbrev pub members : ℕ → ℕ → Want
members zero least = Place
members (suc left) least = Member left least

-- Is the number one that is wanted?
abbrev pub fits : ℕ → ℕ → Want → ℕ → Bool
fits m k Place n = nat_le n m
fits m k Size n = nat_le n (k + 1)
fits m k (Member left least) n = nat_le least n && nat_le n k

-- What is wanted after it.
abbrev pub after : Want → ℕ → Want
after Place n = Size
after Size n = members n 0
after (Member left least) n = members left (suc n)

-- What is wanted after these numbers, if w was before them.
abbrev pub after_all : Want → List ℕ → Want
after_all w [] = w
after_all w (n ∷ ns) = after_all (after w n) ns

-- The lowest index at which numbers from index i on are ill formed, if w is wanted first.
abbrev pub ill_from : ℕ → ℕ → Want → ℕ → List ℕ → Option ℕ
ill_from m k Place i [] = None
ill_from m k Size i [] = Some i
ill_from m k (Member left least) i [] = Some i
ill_from m k w i (n ∷ ns) = if fits m k w n then ill_from m k (after w n) (suc i) ns else Some i

-- The lowest index at which one or more numbers are ill formed.
abbrev pub ill_in : ℕ → ℕ → List ℕ → Option ℕ
ill_in m k [] = Some 0
ill_in m k (n ∷ ns) = ill_from m k Place 0 (n ∷ ns)

-- The lowest index at which a list is ill formed: too long, then a number that is not wanted, or the end where more is wanted.
abbrev pub ill : ℕ → ℕ → List ℕ → Option ℕ
ill m k ns = if nat_le (length ns) most_numbers then ill_in m k ns else Some most_numbers

-- Each number before index i is one that is wanted, and there the list ends and more is wanted, or stands one that is not.
pub record FirstIll (m k : ℕ) (ns : List ℕ) (i : ℕ) : Type 0 where
  pub within : i ≤ length ns
  pub before : (j : ℕ) → j < i → fits m k (after_all Place (take j ns)) (slice_index ns j) ≡ true
  pub here : ((i ≡ length ns) × ((ns ≡ []) ⊎ (after_all Place ns ≢ Place)))
      ⊎ ((i < length ns) × (fits m k (after_all Place (take i ns)) (slice_index ns i) ≡ false))

-- A list is ill formed nowhere exactly if it is that of rows in range, and those are the rows that are read off it.
-- Otherwise it is too long, or ill formed first at the index told.
pub record Formats (m k : ℕ) (ns : List ℕ) : Type 0 where
  pub formed : (ill m k ns ≡ None) ↔ Formed m k (rows_of ns) ns
  pub only : (rows : List Row) → flat rows ≡ ns → rows ≡ rows_of ns
  pub first : (i : ℕ) → ill m k ns ≡ Some i → ((most_numbers < length ns) × (i ≡ most_numbers)) ⊎ ((length ns ≤ most_numbers) × FirstIll m k ns i)

abbrev pub Format : Type 0
Format = (m k : ℕ) (ns : List ℕ) → Formats m k ns
