use Rattle.matching.proofs.entered.Entered.+spread.Given as goal

abbrev pub decreases-spread : goal.decreases-spread
decreases-spread l = l.i
