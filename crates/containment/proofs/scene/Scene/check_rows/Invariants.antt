use Rattle.std.proofs.Common.{◌≡◌, drop}
use Rattle.containment.specs.Checking.{rows_fault}
use Rattle.containment.specs.Scenes.{earlier_of, later_of, rows_in}
use Rattle.containment.proofs.scene.Scene.check_rows.Given as goal

abbrev pub invariant-loop-n : goal.invariant-loop-n
invariant-loop-n l =
    rows_fault (earlier_of l.self) (later_of l.self) (rows_in l.self) 0 (rows_in l.self)
    ≡ rows_fault (earlier_of l.self) (later_of l.self) (rows_in l.self) l.n (drop l.n (rows_in l.self))
