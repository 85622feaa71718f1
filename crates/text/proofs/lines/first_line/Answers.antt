use Rattle.std.proofs.Common.{◌≡◌, ◌==◌, ◌∙◌, rules}
use Rattle.std.specs.List.{position}
use Rattle.std.proofs.lemmas.Iterator.{YieldsList-from_slice}
use Rattle.std.proofs.lemmas.Iterator.Search.{position_from_yields_List}
use borrow.Author.Tests.{tests}
use Rattle.text.proofs.Cuts.{first_is, rest_is}
use Rattle.text.proofs.lines.first_line.Goals as goal

pub returns-clause-length : goal.returns-clause-length
returns-clause-length c =
    let feed : c.position.result ≡ position (λ b. b == 10) c.args.text.now =
    position_from_yields_List (λ b. b == 10) _ _ c.position.result c.position.ensures.ran (YieldsList-from_slice c.args.text.now c.iter-bytes.ensures.rest) (λ x b q k. search (rules, tests)) in
    first_is c.args.text.now c.position.result _ feed c.unwrap_or-length.ensures

pub returns-clause-rest : goal.returns-clause-rest
returns-clause-rest c =
    let r = c.position.ensures.ran in
    c.as_slice.ensures.value ∙ rest_is _ c.args.text.now c.iter-bytes.result _ c.position.result _ r.0 r.1 c.iter-bytes.ensures.rest r.3 r.5 c.unwrap_or-length.ensures
