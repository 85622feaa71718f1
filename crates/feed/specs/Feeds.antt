-- What a take answers.
use Rattle.std.specs.Prelude.{◌≡◌, List, [], ◌∷◌, Some, None, Ok, Err, Option, Result}
use Rattle.feed.specs.declared.fault.Fault.{Fault}

-- The letters w waited before the ending e. The answer is the first of them, and the others v wait on;
-- with none waiting it is the end, or the fault that e is, and none waits on.
abbrev pub Took : {L : Type 0} → List L → Option Fault → Result (Option L) Fault → List L → Type 0
Took w e (Ok (Some l)) v = w ≡ l ∷ v
Took w e (Ok None) v = (w ≡ []) × (v ≡ []) × (e ≡ None)
Took w e (Err f) v = (w ≡ []) × (v ≡ []) × (e ≡ Some f)
