use Rattle.expression.proofs.Passing.{pass_any}
use Rattle.expression.proofs.spell.count_codes.Goals as goal

pub loop-preserved : goal.loop-preserved
loop-preserved c =
    let i = c.loop.invariant in
    pass_any c.args.layout.now c.args.turns.now c.loop.walk c.next_code.new.self i.0 i.1 c.in_ok-next_code.field-0 c.if-is_some.ensures c.in_ok-next_code.ensures
