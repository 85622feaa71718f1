use Rattle.std.proofs.Common.{◌&&◌, ◌==◌, ℕ, get_or, rules, arith, ◌∙◌}
use borrow.Author.Tests.{tests}
use Rattle.std.proofs.iter.Serving.{serving}
use Rattle.std.proofs.lemmas.Iterator.{YieldsList-from_slice}
use Rattle.std.proofs.lemmas.Iterator.Search.{all_from_yields_List}
use Rattle.containment.specs.Stepping.{marked}
use Rattle.containment.proofs.Serving.{rest_low, rest_all}
use Rattle.containment.proofs.index.all_step.Goals as goal

pub all-requires-clause-callable : goal.all-requires-clause-callable
all-requires-clause-callable c =
    let low = rest_low c.args.places.now c.in-Some.last.now c.in-Some.rest.now c.in-Some.ensures.cases c.requires in grind (arith, serving)

pub returns-then-steps : goal.returns-then-steps
returns-then-steps c =
    all_from_yields_List (λ (q : ℕ). (get_or c.args.codes.now q 0 == c.args.code) && marked c.args.follow.now q) _ _ c.all.result c.all.ensures.ran
    (YieldsList-from_slice c.in-Some.rest.now c.iter.ensures.rest) (λ y b q k. search (rules, tests))
    ∙ rest_all c.args.places.now c.in-Some.last.now c.in-Some.rest.now c.in-Some.ensures.cases _ c.if-steps.ensures
