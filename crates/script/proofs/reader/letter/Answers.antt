use Rattle.std.proofs.Common.{arith}
use Rattle.script.specs.Ahead.{ahead}
use Rattle.script.specs.Dialects.{dialect}
use Rattle.script.proofs.Built.{tells_marks, tells_bytes, marked, valued_byte}
use Rattle.script.proofs.reader.letter.Goals as goal

pub returns-in_ok-class : goal.returns-in_ok-class
returns-in_ok-class c =
    marked (ahead c.args.line.now) (ahead c.number.new.line) c.in_ok-first.first c.in_ok-first.ensures
    (ahead c.number-then-kind-eq-MARKS.new.line) (ahead c.seal.new.line) c.in_ok-class.class c.in_ok-class.ensures c.mark_code.result c.mark_code.ensures
    (dialect c.args.kind) (tells_marks c.args.kind (omega arith)) c.seal.result c.seal.ensures

pub returns-else-kind-eq-MARKS : goal.returns-else-kind-eq-MARKS
returns-else-kind-eq-MARKS c =
    valued_byte (ahead c.args.line.now) (ahead c.number.new.line) c.in_ok-first.first c.in_ok-first.ensures
    (ahead c.seal-else-kind-eq-MARKS.new.line) c.byte_code.result c.byte_code.ensures
    (dialect c.args.kind) (tells_bytes c.args.kind (λ q. omega arith)) c.seal-else-kind-eq-MARKS.result c.seal-else-kind-eq-MARKS.ensures
