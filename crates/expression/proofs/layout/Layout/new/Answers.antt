use Rattle.std.proofs.Common.{rules, tests}
use Rattle.std.proofs.lemmas.Iterator.{YieldsList-from_slice}
use Rattle.std.proofs.lemmas.Iterator.Search.{position_from_yields_List}
use Rattle.expression.specs.Checking.{mute}
use Rattle.expression.specs.Verdicts.{gives}
use Rattle.expression.proofs.layout.Layout.new.Goals as goal

pub returns : goal.returns
returns g c =
    c.judge.ensures (gives g.K.Kind.lettered)
    (position_from_yields_List (mute (gives g.K.Kind.lettered)) _ _ c.position-mute.result c.position-mute.ensures.ran
    (YieldsList-from_slice c.args.table.now c.iter.ensures.rest) (λ x b q k. search (rules, tests)))
