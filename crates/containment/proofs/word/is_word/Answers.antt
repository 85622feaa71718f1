use Rattle.std.proofs.Common.{map}
use Rattle.expression.specs.Layouts.{expression_of}
use Rattle.containment.proofs.Reaching.{start_finish, letter_more, word_end}
use Rattle.containment.proofs.word.is_word.Goals as goal

pub loop-letter-init : goal.loop-letter-init
loop-letter-init g c = start_finish (expression_of c.args.layout.now) c.of-set.result c.of-set.ensures (map g.K.Kind.coded c.args.word.now)

pub loop-letter-preserved : goal.loop-letter-preserved
loop-letter-preserved g c =
    letter_more c.args.layout.now g.K.Kind.coded c.args.word.now c.loop-letter.letter-index c.loop-letter-test.true c.letter-item.result c.letter-item.is c.code.result
    c.code.ensures c.new-places.result.layout.now c.new-places.ensures c.loop-letter.set c.step-set.result c.step-set.ensures c.loop-letter.invariant

pub returns : goal.returns
returns g c =
    word_end c.args.layout.now g.K.Kind.coded c.args.word.now c.loop-letter.letter-index c.loop-letter-test.false c.new-places.result.layout.now c.new-places.ensures
    c.loop-letter.set c.after.result c.after.ensures c.loop-letter.invariant
