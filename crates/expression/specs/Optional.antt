-- Working with values that may be missing.
use Rattle.std.specs.Prelude.{Option}
use Rattle.std.specs.Option.{option_and_then, option_map}

-- What a function gives of the value, that may itself give nothing.
abbrev pub and_then : {A B : Type 0} → Option A → (A → Option B) → Option B
and_then o f = option_and_then f o

-- A function of two values, where there are both.
abbrev pub lift2 : {A B C : Type 0} → (A → B → C) → Option A → Option B → Option C
lift2 f o p = option_and_then (λ a. option_map (f a) p) o
