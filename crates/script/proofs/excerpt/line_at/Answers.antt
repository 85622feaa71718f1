use Rattle.std.proofs.Common.{◌≡◌, List, ℕ, [], Bor, Some, None, Option, refl, ap, ◌∙◌}
use Rattle.std.specs.Option.{option_map, unwrap_or}
use Rattle.std.proofs.lemmas.Iterator.Consumers.{nth_from_yields_List, YieldsList-from_first}
use Rattle.std.proofs.lemmas.Option.{unwrap_or-slice_get}
use Rattle.text.specs.Lines.{lines}
use Rattle.script.proofs.excerpt.line_at.Goals as goal

now_or : {A : Type 0} (o : Option (Bor A)) (d : Bor A) → (unwrap_or o d).now ≡ unwrap_or (option_map (λ x. x.now) o) d.now
now_or (Some x) d = refl
now_or None d = refl

pub returns : goal.returns
returns c =
    let ls = lines c.args.text.now in
    let found = nth_from_yields_List c.nth.result _ c.args.index c.nth.ensures.ran (YieldsList-from_first (λ x. x.now) (λ s. s) ls c.lines.ensures.value) in
    ap (λ (r : Bor (List ℕ)). r.now) c.unwrap_or.ensures ∙ (now_or c.nth.result _ ∙ (ap (λ o. unwrap_or o []) found ∙ unwrap_or-slice_get ls c.args.index []))
