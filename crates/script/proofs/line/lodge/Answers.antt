use Rattle.std.proofs.Common.{◌++◌, ap, ◌∙◌}
use Rattle.script.specs.Ahead.{ahead}
use Rattle.script.specs.Denoted.{postfix}
use Rattle.script.specs.Dialects.{dialect}
use Rattle.script.proofs.Whole.{lodges}
use Rattle.script.proofs.line.lodge.Goals as goal

pub returns : goal.returns
returns c =
    let r = c.in_ok-expr.ensures in
    lodges (dialect c.args.kind) (ahead c.args.line.now) (ahead c.expr.new.line) c.in_ok-expr.field-0 _ _ r (ahead c.close.new.line) c.in_ok-close.ensures
    _ (r.expr, r.denotes, r.table ∙ ap (λ x. x ++ postfix r.expr) c.new-table.ensures.items) c.in_ok-end.ensures
