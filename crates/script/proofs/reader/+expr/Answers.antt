use Rattle.script.specs.Ahead.{ahead}
use Rattle.script.specs.Dialects.{dialect}
use Rattle.script.proofs.Built.{read_mark, read_empty, read_two, read_star}
use Rattle.script.proofs.reader.+expr.Goals as goal

pub returns-in_ok-put-in-Mark : goal.returns-in_ok-put-in-Mark
returns-in_ok-put-in-Mark t c =
    read_mark (dialect c.args.kind) (ahead c.args.line.now) (ahead c.head.new.line) c.args.left c.in_ok-name.name c.in_ok-name.ensures
    c.in_ok-code-in-Mark.code (ahead c.letter.new.line) _ _ c.in-Mark.is c.in_ok-code-in-Mark.ensures c.in_ok-put-in-Mark.ensures

pub returns-in_ok-put-in-Nothing : goal.returns-in_ok-put-in-Nothing
returns-in_ok-put-in-Nothing t c =
    read_empty (dialect c.args.kind) (ahead c.args.line.now) (ahead c.head.new.line) c.args.left c.in_ok-name.name c.in_ok-name.ensures
    (ahead c.close.new.line) _ _ c.in-Nothing.is c.in_ok-close-in-Nothing.ensures c.in_ok-put-in-Nothing.ensures

pub returns-in_ok-put-in-Pair : goal.returns-in_ok-put-in-Pair
returns-in_ok-put-in-Pair t c =
    read_two (dialect c.args.kind) (ahead c.args.line.now) (ahead c.head.new.line) c.args.left c.in_ok-name.name c.in_ok-name.ensures
    c.in_ok-left-in-Pair.left c.in_ok-left-in-Pair-2.left (ahead c.expr.new.line) (ahead c.expr-in-Pair.new.line) (ahead c.close-in-Pair.new.line) _ _ _ _
    c.in_ok-left-in-Pair.ensures c.in_ok-left-in-Pair-2.ensures c.in_ok-close-in-Pair.ensures c.in-Pair.is c.joint.result c.joint.ensures c.in_ok-put-in-Pair.ensures

pub returns-in_ok-put-in-Star : goal.returns-in_ok-put-in-Star
returns-in_ok-put-in-Star t c =
    read_star (dialect c.args.kind) (ahead c.args.line.now) (ahead c.head.new.line) c.args.left c.in_ok-name.name c.in_ok-name.ensures
    c.in_ok-left-in-Star.left (ahead c.expr-in-Star.new.line) (ahead c.close-in-Star.new.line) _ _ _ c.in-Star.is c.in_ok-left-in-Star.ensures c.in_ok-close-in-Star.ensures c.in_ok-put-in-Star.ensures
