use Rattle.std.proofs.Common.{◌≢◌, rules}
use Rattle.script.specs.Ahead.{ahead}
use Rattle.script.proofs.Steps.{misfits}
use Rattle.script.proofs.cursor.Cursor.expect.Goals as goal

pub returns-else-eq : goal.returns-else-eq
returns-else-eq c =
    let t = c.take-token.result in
    let other : t.sort ≢ c.args.sort = search rules in
    misfits (ahead c.args.self.now) (ahead c.take-token.new.self) t.sort t.place t.text.now c.take-token.ensures c.args.sort other
