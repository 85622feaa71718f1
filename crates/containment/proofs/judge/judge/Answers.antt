use Rattle.std.proofs.Common.{ℕ, List, Err, sym, ap, ◌∙◌}
use Rattle.std.proofs.lemmas.Result.{err_from_is_err_and}
use Rattle.expression.specs.Layouts.{expression_of}
use Rattle.containment.specs.Checking.{rules_fault, verdict}
use Rattle.containment.specs.Format.{rows_of}
use Rattle.containment.proofs.Answering.{well, told_order, told_rules}
use Rattle.containment.proofs.Tabled.{listed}
use Rattle.containment.proofs.judge.judge.Goals as goal

pub returns-in_err-check : goal.returns-in_err-check
returns-in_err-check c =
    let p = err_from_is_err_and c.from_residual.result c.from_residual.ensures.1 in
    let x =
    told_order c.args.earlier.now c.args.later.now c.args.rows.now _ _ c.of.ensures.earlier c.of.ensures.later c.in_err-check.field-0.0
    (sym c.in_err-check.was ∙ c.check.ensures) c.from_residual.result (p.1 ∙ ap (λ f. Err f) p.2) in
    record { judged = x.judged; accepts = x.accepts; sound = x.sound }

pub returns : goal.returns
returns c =
    let x =
    told_rules c.args.earlier.now c.args.later.now c.args.rows.now _ _ c.of.ensures.earlier c.of.ensures.later (sym c.in_ok-check.was ∙ c.check.ensures)
    c.check_rules.result
    (c.check_rules.ensures ∙ ap (λ (ns : List ℕ). verdict (rules_fault (expression_of c.args.earlier.now) (expression_of c.args.later.now) (rows_of ns))) c.new-rows.ensures
    ) in
    record { judged = x.judged; accepts = x.accepts; sound = x.sound }

pub new-rows-requires : goal.new-rows-requires
new-rows-requires c =
    listed c.args.earlier.now c.args.later.now c.args.rows.now
    (
    well c.args.earlier.now c.args.later.now c.args.rows.now _ _ c.of.ensures.earlier c.of.ensures.later (sym c.in_ok-check.was ∙ c.check.ensures)
    )
