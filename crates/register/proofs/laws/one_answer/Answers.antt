use Rattle.register.proofs.OneAnswer.{one_answer}
use Rattle.register.proofs.laws.one_answer.Goals as goal

pub returns : goal.returns
returns c = one_answer
