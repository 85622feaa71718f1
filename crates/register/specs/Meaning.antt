-- What a register means: the tables that stand under the numbers 0, 1, ..
use Rattle.std.specs.Prelude.{List, map, vec_items}
use Rattle.expression.specs.Layouts.{table_of}
use Rattle.expression.specs.declared.raw.RawNode.{RawNode}
use Rattle.register.specs.declared.register.Register.{Register}

abbrev pub tables : {K : Type 0} → Register K → List (List RawNode)
tables r = map table_of (vec_items r.layouts)
