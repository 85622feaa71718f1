use Rattle.std.proofs.Common.{◌≡◌, true, get_or, arith, rules, tests}
use Rattle.script.specs.Tokens.{letter, digit}
use Rattle.script.proofs.Cutting.{fronts_name, fronts_number}
use Rattle.script.proofs.lexer.front.Goals as goal

pub returns-in-0-to-9 : goal.returns-in-0-to-9
returns-in-0-to-9 c =
    let d : digit (get_or c.args.rest.now 0 0) ≡ true = search (rules, tests) in
    rw c.run_length.ensures (fronts_number c.args.rest.now (omega arith) d)

pub returns-in-a-to-z : goal.returns-in-a-to-z
returns-in-a-to-z c =
    let l : letter (get_or c.args.rest.now 0 0) ≡ true = search (rules, tests) in
    rw c.run_length-in-a-to-z.ensures (fronts_name c.args.rest.now (omega arith) l)
