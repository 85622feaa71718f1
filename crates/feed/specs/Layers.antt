-- What the layers make of the letters below, by a kind's codes.
use Rattle.std.specs.Prelude.{ℕ, if◌then◌else◌, List, [], ◌∷◌, Option}
use Rattle.std.specs.Option.{option_and_then, unwrap_or}
use Rattle.feed.specs.declared.tables.Pair.{Pair}
use Rattle.feed.specs.Tables.{listed, target_of}

-- The letter that its own pair puts in the place of l: that with the target's code, where there is one; else l itself.
abbrev pub renamed : {L : Type 0} → (L → ℕ) → (ℕ → Option L) → List Pair → L → L
renamed code letter pairs l = unwrap_or (option_and_then letter (target_of pairs (code l))) l

-- The letters whose codes are not in the list.
abbrev pub kept : {L : Type 0} → (L → ℕ) → List ℕ → List L → List L
kept code codes [] = []
kept code codes (l ∷ ls) = if listed codes (code l) then kept code codes ls else l ∷ kept code codes ls
