use Rattle.std.proofs.Common.{subst}
use Rattle.std.proofs.lemmas.Result.{err_from_is_err_and}
use Rattle.script.specs.Dialects.{dialect}
use Rattle.script.specs.Law.{Accepted}
use Rattle.script.proofs.running.answer.Goals as goal

pub returns-in_err-call : goal.returns-in_err-call
returns-in_err-call g c =
    let p = err_from_is_err_and c.from_residual-in_err-call.result c.from_residual-in_err-call.ensures.1 in
    let read = subst (λ k. Accepted (dialect k) c.args.line.now c.in_ok-form.form) c.NUMBER.ensures c.in_ok-form.ensures in
    rw (p.1, p.2) (c.in_ok-form.form, read, c.in_err-call.ensures)

pub returns : goal.returns
returns g c =
    let read = subst (λ k. Accepted (dialect k) c.args.line.now c.in_ok-form.form) c.NUMBER.ensures c.in_ok-form.ensures in
    (c.in_ok-form.form, read, c.in_ok-call.ensures)
