use Rattle.std.proofs.Common.{◌≡◌, drop}
use Rattle.containment.specs.declared.want.Want.TheVariants.{Place}
use Rattle.containment.specs.Format.{ill_from}
use Rattle.containment.proofs.list.Counts.check_each.Given as goal

abbrev pub invariant-loop-i : goal.invariant-loop-i
invariant-loop-i l = ill_from l.self.earlier l.self.later Place 0 l.numbers ≡ ill_from l.self.earlier l.self.later l.want l.i (drop l.i l.numbers)
