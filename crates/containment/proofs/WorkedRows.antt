-- The worked lines hold, all by one computation.
use Prim.{tt}
use Rattle.std.proofs.Common.{◌≡◌, List, [], ◌∷◌, map, Result, refl, subst}
use mathlib.Core.List.{head-eq_of_cons-eq, tail-eq_of_cons-eq}
use Rattle.expression.specs.Members.{Each}
use Rattle.containment.specs.declared.fault.RowsFault.{RowsFault}
use Rattle.containment.specs.Format.{rows_of}
use Rattle.containment.specs.Checking.{verdict, list_fault}
use Rattle.containment.specs.Verdicts.{Judged}
use Rattle.containment.specs.WorkedRows.{Line, Holds, worked_rows, WorkedRows}
use Rattle.containment.proofs.Judging.{judged}

computed : Line → Result Unit RowsFault
computed l = verdict (list_fault l.earlier l.later l.numbers)

abbrev said : Line → Result Unit RowsFault
said l = l.answer

each_holds : (ls : List Line) → map computed ls ≡ map said ls → Each Holds ls
unfolding computed
each_holds [] e = tt
each_holds (l ∷ ls) e = (
  subst (Judged l.earlier l.later l.numbers) (head-eq_of_cons-eq e) (judged l.earlier l.later l.numbers),
  each_holds ls (tail-eq_of_cons-eq e),
)

same : map computed worked_rows ≡ map said worked_rows
unfolding rows_of computed
same = refl

pub worked : WorkedRows
worked = each_holds worked_rows same
