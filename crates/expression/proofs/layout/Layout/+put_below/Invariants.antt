use Rattle.expression.proofs.layout.Layout.+put_below.Given as goal

abbrev pub decreases-put_below : goal.decreases-put_below
decreases-put_below l = l.i
