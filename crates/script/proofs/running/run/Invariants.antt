use Rattle.std.proofs.Common.{length, vec_items}
use Rattle.expression.specs.Verdicts.{gives}
use Rattle.register.specs.Meaning.{tables}
use Rattle.text.specs.Lines.{lines}
use Rattle.script.specs.Dialects.{dialect}
use Rattle.script.proofs.Transcripts.{Going}
use Rattle.script.proofs.running.run.Given as goal

abbrev pub invariant-loop-index : goal.invariant-loop-index
invariant-loop-index g l = Going (dialect g.K.Dialect.NUMBER) (gives g.K.Kind.lettered) (lines l.script) (length l.yielded) (tables l.register) (vec_items l.out)
