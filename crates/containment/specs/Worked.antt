-- All worked lines in one list: those on trees and those on rows.
use Rattle.std.specs.Prelude.{List, ◌++◌, map}
use Rattle.expression.specs.Members.{Each}
use Rattle.expression.specs.WorkedLines as trees
use Rattle.containment.specs.WorkedRows as rows

pub data Line : Type 0 where
  on_trees : trees.Line → Line
  on_rows : rows.Line → Line

-- What a line says.
abbrev pub Holds : Line → Type 0
Holds (on_trees l) = trees.Holds l
Holds (on_rows l) = rows.Holds l

abbrev pub worked_lines : List Line
worked_lines = map on_trees trees.worked_lines ++ map on_rows rows.worked_rows

abbrev pub Worked : Type 0
Worked = Each Holds worked_lines
