use Rattle.std.proofs.Common.{sym, ap, ◌∙◌, arith}
use Rattle.expression.specs.Layouts.{nodes_of}
use Rattle.containment.proofs.Passing.{coded_letter}
use Rattle.containment.proofs.Wiring.{wired}
use Rattle.containment.proofs.part.Part.+put_codes.Goals as goal

pub returns-in-Letter : goal.returns-in-Letter
returns-in-Letter t c =
    coded_letter (nodes_of c.args.self.layout.now) (wired c.args.self.layout.now) c.args.self.node c.args.self.within c.in-Letter.code _
    (sym (ap (λ n. n.shape) c.read-here.ensures) ∙ c.in-Letter.is) (c.from.ensures ∙ ap (λ n. n.letters) c.read-here.ensures) c.args.out.now (omega arith)
