use Rattle.std.proofs.Common.{◌≡◌, [], ◌∷◌, ◌++◌, reverse, refl, ap, ◌∙◌, arith}
use Rattle.expression.specs.Layouts.{nodes_of}
use Rattle.expression.specs.Nodes.{last}
use Rattle.expression.proofs.Passing.{start_fits, start_weight, start_codes}
use Rattle.expression.proofs.Visiting.{at_once, one_on}
use Rattle.expression.proofs.walk.Walk.new.Goals as goal
use Rattle.expression.proofs.walk.Walk.new.Goals.{After-push}

root : (c : After-push) → reverse c.push.new.self.items ≡ at_once (last (nodes_of c.args.layout.now)) ∷ []
root c =
    one_on [] _ _ _ (c.push.ensures.items ∙ ap (λ k. k ++ c.at_once.result ∷ []) c.new-pending.ensures) (c.at_once.ensures ∙ ap at_once c.root.ensures)

pub invariant_of-result : goal.invariant_of-result
invariant_of-result c =
    let e = root c in
    record {
      fits = ∣ start_fits c.args.layout.now c.push.new.self.items e ∣₁;
      small = omega (arith, start_weight c.args.layout.now c.push.new.self.items e);
    }

pub returns : goal.returns
returns c =
    let e = root (goal.at.returns c).After-push in
    record {
      codes = start_codes c.args.layout.now c.push.new.self.items e c.args.turns.now;
      letters = refl;
      few = omega (arith, start_weight c.args.layout.now c.push.new.self.items e);
    }
