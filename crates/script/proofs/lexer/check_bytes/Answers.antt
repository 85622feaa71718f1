use Rattle.std.proofs.Common.{not, sym, ◌∙◌, rules, tests}
use Rattle.std.proofs.lemmas.Iterator.{YieldsList-from_slice}
use Rattle.std.proofs.lemmas.Iterator.Search.{position_from_yields_List}
use Rattle.std.proofs.lemmas.List.Quantifiers.{position-Some}
use Rattle.script.specs.Tokens.{known}
use Rattle.script.proofs.Cutting.{spoiled}
use Rattle.script.proofs.lexer.check_bytes.Goals as goal

pub returns-in-Some : goal.returns-in-Some
returns-in-Some c =
    let first = position_from_yields_List (λ b. not (known b)) _ _ c.position.result c.position.ensures.ran (YieldsList-from_slice c.args.line.now cc) (λ x b q k. search (rules, tests)) in
    spoiled c.args.line.now c.in-Some.index (position-Some (λ b. not (known b)) c.args.line.now c.in-Some.index 0 (sym first ∙ c.in-Some.is))
