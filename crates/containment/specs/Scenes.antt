-- What is read of a scene. This serves the proofs only.
use Rattle.std.specs.Prelude.{List}
use Rattle.expression.specs.Expressions.{Expr}
use Rattle.expression.specs.Layouts.{expression_of}
use Rattle.containment.specs.declared.scene.Scene.{Scene}
use Rattle.containment.specs.Format.{rows_of}
use Rattle.containment.specs.Rows.{Row}

abbrev pub earlier_of : Scene → Expr
earlier_of s = expression_of s.earlier.layout.now

abbrev pub later_of : Scene → Expr
later_of s = expression_of s.later.layout.now

abbrev pub rows_in : Scene → List Row
rows_in s = rows_of s.rows.now.numbers.now
