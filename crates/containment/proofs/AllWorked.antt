-- The worked lines on trees and on rows, all in one list.
use Prim.{tt}
use Rattle.std.proofs.Common.{List, [], ◌∷◌, ◌++◌, map}
use Rattle.expression.proofs.WorkedLines.{worked_lines_hold}
use Rattle.expression.specs.Members.{Each}
use Rattle.expression.specs.WorkedLines as trees
use Rattle.containment.specs.Worked.{Line, on_trees, on_rows, Holds, Worked}
use Rattle.containment.specs.WorkedRows as rows
use Rattle.containment.proofs.WorkedRows.{worked}

after_trees : (ls : List trees.Line) (ks : List Line) → Each trees.Holds ls → Each Holds ks → Each Holds (map on_trees ls ++ ks)
after_trees [] ks p q = q
after_trees (l ∷ ls) ks p q = (p.0, after_trees ls ks p.1 q)

about_rows : (ls : List rows.Line) → Each rows.Holds ls → Each Holds (map on_rows ls)
about_rows [] p = tt
about_rows (l ∷ ls) p = (p.0, about_rows ls p.1)

pub all_worked : Worked
all_worked = after_trees trees.worked_lines (map on_rows rows.worked_rows) worked_lines_hold (about_rows rows.worked_rows worked)
