use Rattle.std.proofs.Common.{sym, ap, ◌∙◌, arith}
use Rattle.expression.specs.Layouts.{nodes_of}
use Rattle.containment.proofs.Passing.{spread_letter}
use Rattle.containment.proofs.Wiring.{wired}
use Rattle.containment.proofs.part.Part.+spread.Goals as goal

pub returns-then-reached : goal.returns-then-reached
returns-then-reached t c set closed =
    spread_letter (nodes_of c.args.self.layout.now) (wired c.args.self.layout.now) c.args.self.node c.args.self.within c.in-Letter.field-0 _
    (sym (ap (λ n. n.shape) c.read-here.ensures) ∙ c.in-Letter.is) (c.from.ensures ∙ ap (λ n. n.letters) c.read-here.ensures) set c.args.out.now c.args.reached c.if-reached.true (omega arith)
