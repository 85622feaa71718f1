use Rattle.std.proofs.Common.{◌≡◌, ◌+◌, None, ap, ◌∙◌, arith, rules}
use Rattle.std.proofs.lemmas.List.{take_all}
use Rattle.script.specs.Lexing.{valued}
use Rattle.script.specs.Tokens.{decimal}
use Rattle.script.proofs.Cutting.{value_more, value_over, value_end}
use Rattle.script.proofs.lexer.value.Goals as goal

pub returns-in_err-checked_mul : goal.returns-in_err-checked_mul
returns-in_err-checked_mul c =
    let w = c.args.digits.now in
    let none : c.from_residual.result ≡ None = search rules in
    none ∙ value_over w (c.loop-b.b-index + 1) (rw (value_more w c.loop-b.b-index c.loop-b-test.true) (omega arith))

pub returns-in_err-value : goal.returns-in_err-value
returns-in_err-value c =
    let w = c.args.digits.now in
    let none : c.from_residual-in_err-value.result ≡ None = search rules in
    none ∙ value_over w (c.loop-b.b-index + 1) (rw (value_more w c.loop-b.b-index c.loop-b-test.true) (omega arith))

pub loop-b-preserved : goal.loop-b-preserved
loop-b-preserved c =
    let w = c.args.digits.now in
    record { low = omega arith; so_far = rw (value_more w c.loop-b.b-index c.loop-b-test.true) (omega arith) }

pub returns : goal.returns
returns c =
    let w = c.args.digits.now in
    value_end c.loop-b.value c.loop-b.invariant.low ∙ ap valued (c.loop-b.invariant.so_far ∙ ap decimal (take_all c.loop-b.b-index w c.loop-b-test.false))
