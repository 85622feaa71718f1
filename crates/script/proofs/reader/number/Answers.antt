use Rattle.std.proofs.Common.{sym, ◌∙◌, subst}
use Rattle.std.proofs.lemmas.Result.{err_from_is_err_and}
use Rattle.script.specs.Ahead.{ahead}
use Rattle.script.specs.Reading.{Uncounted}
use Rattle.script.specs.declared.fault.FormFault.TheVariants.{Token}
use Rattle.script.specs.declared.fault.TokenFault.TheVariants.{TooLarge}
use Rattle.script.proofs.Same.{missing}
use Rattle.script.proofs.Steps.{uncounted}
use Rattle.script.proofs.reader.number.Goals as goal

pub returns-in_err-ok_or : goal.returns-in_err-ok_or
returns-in_err-ok_or c =
    let p = err_from_is_err_and c.from_residual-in_err-ok_or.result c.from_residual-in_err-ok_or.ensures.1 in
    let t = c.in_ok-token.token in
    let m = missing c.value.result (TooLarge t.place) c.in_err-ok_or.field-0.0 c.in_err-ok_or.ensures.value in
    let ts = ahead c.args.line.now in
    rw (p.1, p.2) (subst (λ f. Uncounted ts (Token f)) m.1 (uncounted ts (ahead c.expect.new.self) t.place t.text.now c.in_ok-token.ensures (sym c.value.ensures ∙ m.0)))
