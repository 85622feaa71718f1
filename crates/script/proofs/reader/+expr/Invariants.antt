use Rattle.script.proofs.reader.+expr.Given as goal

abbrev pub decreases-expr : goal.decreases-expr
decreases-expr l = l.left
