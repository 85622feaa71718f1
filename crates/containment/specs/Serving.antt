-- The look-up of the rows that serve a follower, by tables. This serves the proofs only.
use Rattle.std.specs.Prelude.{◌≡◌, ℕ, Bool, not, ◌&&◌, List, ◌==◌, nat_eq, slice_index}
use Rattle.std.specs.List.{list_all}
use Rattle.expression.specs.Members.{any}
use Rattle.containment.specs.Rows.{Row}
use Rattle.containment.specs.Stepping.{marked}

-- The table marks the places of a set, and no others.
abbrev pub Marks : List ℕ → List Bool → Type 0
Marks set table = (p : ℕ) → marked table p ≡ any (nat_eq p) set

-- Has each place of the set the code c, and is each in the table of followers?
abbrev pub all_step : List Bool → List ℕ → ℕ → List ℕ → Bool
all_step follow codes c set = list_all (λ q. (slice_index codes q == c) && marked follow q) set

-- Does the row serve f, whose code is c?
abbrev pub serves_by : List Bool → List ℕ → ℕ → ℕ → Row → Bool
serves_by follow codes c f o = o.place == f && all_step follow codes c o.set

-- Does some row serve f?
abbrev pub served_by : List Row → List Bool → List ℕ → ℕ → ℕ → Bool
served_by rows follow codes c f = any (serves_by follow codes c f) rows

-- Is f a follower that no row serves?
abbrev pub unserved_by : List Row → List Bool → List ℕ → List Bool → List ℕ → ℕ → Bool
unserved_by rows followers earlier_codes follow codes f = marked followers f && not (served_by rows follow codes (slice_index earlier_codes f) f)
