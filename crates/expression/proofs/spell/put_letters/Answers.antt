use Rattle.std.proofs.Common.{[], ◌∷◌, ◌++◌, arith}
use Rattle.expression.proofs.Passing.{pass_letter, put_letter, put_mute, few}
use Rattle.expression.proofs.Writing.{set_capped, filtered_short}
use Rattle.expression.proofs.spell.put_letters.Goals as goal

pub overflow_add-count : goal.overflow_add-count
overflow_add-count g c =
    let i = c.loop-code.invariant in
    omega (arith, few c.args.layout.now c.args.turns.now c.loop-code.walk i.0 i.1, i.2.count, filtered_short g.K.Kind.lettered i.0)

pub loop-code-preserved-in-Some-letter : goal.loop-code-preserved-in-Some-letter
loop-code-preserved-in-Some-letter g c =
    let i = c.loop-code.invariant in (
      i.0 ++ (c.in-Some.code ∷ []),
      pass_letter c.args.layout.now c.args.turns.now c.loop-code.walk c.next_code.new.self i.0 i.1 c.in-Some.code (rw c.in-Some.is at c.in_ok-code.ensures),
      put_letter g.K.Kind.lettered i.0 c.in-Some.code c.loop-code.count c.args.letters.now c.loop-code.letters i.2 c.in-Some-letter.letter
          c.put.new.buffer c.in-Some-letter.ensures (set_capped c.loop-code.letters c.put.new.buffer c.loop-code.count _ _ c.try_from.result c.put.ensures c.try_from.ensures c.unwrap_or-at.ensures (omega arith)),
    )

pub loop-code-preserved : goal.loop-code-preserved
loop-code-preserved g c =
    let i = c.loop-code.invariant in (
      i.0 ++ (c.in-Some.code ∷ []),
      pass_letter c.args.layout.now c.args.turns.now c.loop-code.walk c.next_code.new.self i.0 i.1 c.in-Some.code (rw c.in-Some.is at c.in_ok-code.ensures),
      put_mute g.K.Kind.lettered i.0 c.in-Some.code c.loop-code.count c.args.letters.now c.loop-code.letters i.2 c.in_default-letter.ensures,
    )
