use Rattle.expression.proofs.Judging.{one_verdict}
use Rattle.expression.proofs.laws.one_verdict.Goals as goal

pub returns : goal.returns
returns c give ns = one_verdict give ns
