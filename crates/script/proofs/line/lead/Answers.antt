use Rattle.std.proofs.Common.{sym, ◌∙◌}
use Rattle.script.specs.Ahead.{ahead}
use Rattle.script.specs.declared.fault.FormFault.TheVariants.{Misfit}
use Rattle.script.proofs.Same.{or_else}
use Rattle.script.proofs.Steps.{led, unled}
use Rattle.script.proofs.line.lead.Goals as goal

pub returns : goal.returns
returns c =
    let t = c.in_ok-expect.field-0 in
    let u = c.in_ok-name.name in
    let ts = ahead c.args.line.now in
    let us = ahead c.expect.new.self in
    let vs = ahead c.expect-2.new.self in
    or_else c.form_name.result (Misfit u.place) c.ok_or.result _ _ c.ok_or.ensures.value
    (λ x e. led ts us vs t.place u.place t.text.now u.text.now c.in_ok-expect.ensures c.in_ok-name.ensures x (sym c.form_name.ensures ∙ e))
    (λ e. unled ts us vs t.place u.place t.text.now u.text.now c.in_ok-expect.ensures c.in_ok-name.ensures (sym c.form_name.ensures ∙ e))
