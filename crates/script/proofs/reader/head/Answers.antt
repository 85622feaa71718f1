use Rattle.std.proofs.Common.{◌<◌, sym, ◌∙◌, arith}
use Rattle.script.specs.Ahead.{ahead}
use Rattle.script.specs.Dialects.{dialect}
use Rattle.script.specs.declared.fault.FormFault.TheVariants.{Misfit}
use Rattle.script.proofs.Same.{or_else}
use Rattle.script.proofs.Steps.{open_none, headed_by, unnamed_by}
use Rattle.script.proofs.reader.head.Goals as goal

pub returns-then-left-eq0 : goal.returns-then-left-eq0
returns-then-left-eq0 c =
    let t = c.in_ok-bracket.bracket in
    open_none (ahead c.args.line.now) (ahead c.expect.new.self) t.place t.text.now (dialect c.args.kind) c.in_ok-bracket.ensures c.args.left c.if-left-eq0.true

pub returns : goal.returns
returns c =
    let d = dialect c.args.kind in
    let t = c.in_ok-bracket.bracket in
    let u = c.in_ok-name.name in
    let ts = ahead c.args.line.now in
    let us = ahead c.expect.new.self in
    let vs = ahead c.expect-2.new.self in
    let some : 0 < c.args.left = omega arith in
    or_else c.name_at.result (Misfit u.place) c.ok_or.result _ _ c.ok_or.ensures.value
    (λ x e. headed_by ts us vs t.place u.place t.text.now u.text.now c.in_ok-bracket.ensures c.in_ok-name.ensures d c.args.left x some (sym c.name_at.ensures ∙ e))
    (λ e. unnamed_by ts us vs t.place u.place t.text.now u.text.now c.in_ok-bracket.ensures c.in_ok-name.ensures d c.args.left some (sym c.name_at.ensures ∙ e))
