use Rattle.std.proofs.Common.{arith, ◌≡◌, Bool, ◌==◌, ◌&&◌, false, slice_index, ◌∙◌}
use Rattle.std.proofs.lemmas.Bool.Decides.{nat_tests}
use Rattle.containment.specs.Stepping.{marked}
use Rattle.containment.proofs.Filling.{filled}
use Rattle.containment.proofs.places.Places.step.Goals as goal

pub returns : goal.returns
returns c q lt =
    filled _ _ (λ k (b : Bool). b ≡ ((slice_index c.args.self.now.codes k == c.args.code) && marked c.after-after.result.follow k)) (λ k r f x. grind (arith, nat_tests)) _ 129
    c.from_fn.ensures.items q false lt
    ∙ λ i. (c.args.self.now.coded q i == c.args.code) && c.after-after.ensures.follow q i
