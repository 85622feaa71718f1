use Rattle.script.specs.Ahead.{ahead}
use Rattle.script.specs.declared.fault.FormFault.TheVariants.{Misfit}
use Rattle.script.proofs.Same.{or_else}
use Rattle.script.proofs.Steps.{sealed, unsealed}
use Rattle.script.proofs.reader.seal.Goals as goal

pub returns : goal.returns
returns c =
    let t = c.in_ok-token.token in
    let ts = ahead c.args.line.now in
    let us = ahead c.expect.new.self in
    or_else c.args.code (Misfit t.place) c.ok_or.result _ _ c.ok_or.ensures.value
    (λ a e. rw e (sealed ts us t.place t.text.now c.in_ok-token.ensures a))
    (λ e. rw e (unsealed ts us t.place t.text.now c.in_ok-token.ensures))
