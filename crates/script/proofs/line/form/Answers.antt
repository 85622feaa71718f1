use Rattle.std.proofs.Common.{subst}
use Rattle.std.proofs.lemmas.Result.{err_from_is_err_and, MatchResult-weaker}
use Rattle.script.specs.Ahead.{ahead}
use Rattle.script.specs.Dialects.{dialect}
use Rattle.script.specs.Reading.{Led, Unled}
use Rattle.script.specs.declared.name.FormName.TheVariants.{Lodge}
use Rattle.script.proofs.Only.{told_refused}
use Rattle.script.proofs.Whole.{one_name, accepted, refused}
use Rattle.script.proofs.line.form.Goals as goal

pub returns-in_err-lead : goal.returns-in_err-lead
returns-in_err-lead c =
    let p = err_from_is_err_and c.from_residual.result c.from_residual.ensures.1 in
    let f = c.in_err-lead.field-0.0 in
    let unled = subst (λ ts. Unled ts f) c.new-rest.ensures c.in_err-lead.ensures in
    rw (p.1, p.2) (told_refused (dialect c.args.kind) c.args.line.now f c.requires (unled (dialect c.args.kind)))

pub returns : goal.returns
returns c =
    let d = dialect c.args.kind in
    let us = ahead c.lead.new.line in
    let led = subst (λ ts. Led ts Lodge us) c.new-rest.ensures (subst (λ x. Led (ahead c.new-rest.result) x us) (one_name c.in_ok-lead.field-0) c.in_ok-lead.ensures) in
    MatchResult-weaker c.lodge.result c.lodge.ensures (accepted d c.args.line.now c.requires Lodge us led) (refused d c.args.line.now c.requires Lodge us led)
