-- What a gathering leaves in its buffer, and what it answers.
use Rattle.std.specs.Prelude.{◌≡◌, ℕ, min, if◌then◌else◌, List, [], ◌∷◌, ◌++◌, length, drop, Some, None, Ok, Err, Option, Result, nat_lt}
use Rattle.feed.specs.declared.fault.Fault as fault
use Rattle.feed.specs.declared.gathering.Ungathered.{Ungathered}
use Rattle.feed.specs.declared.gathering.Ungathered.TheVariants.{Fault, Beyond}

-- How many letters are gathered at most.
abbrev pub limit : {L : Type 0} → List L → ℕ
limit buf = min (length buf) 4096

-- The letters xs over the first of the buffer, and the rest of it as it was.
abbrev pub over : {L : Type 0} → List L → List L → List L
over xs buf = xs ++ drop (length xs) buf

-- The answer where the ending came after n letters.
abbrev pub with_ending : ℕ → Option fault.Fault → Result ℕ Ungathered
with_ending n None = Ok n
with_ending n (Some f) = Err (Fault n f)

-- The answer where the letters w wait before the ending e, and at most m are gathered.
abbrev pub gathered : {L : Type 0} → List L → Option fault.Fault → ℕ → Result ℕ Ungathered
gathered w e m = if nat_lt m (length w) then Err (Beyond m) else with_ending (length w) e

-- What a private helper of the code answers that takes after n letters: as `Took`, with a fault told after n letters.
abbrev pub TookAfter : {L : Type 0} → ℕ → List L → Option fault.Fault → Result (Option L) Ungathered → List L → Type 0
TookAfter n w e (Ok (Some l)) v = w ≡ l ∷ v
TookAfter n w e (Ok None) v = (w ≡ []) × (v ≡ []) × (with_ending n e ≡ Ok n)
TookAfter n w e (Err u) v = (w ≡ []) × (v ≡ []) × (with_ending n e ≡ Err u)
