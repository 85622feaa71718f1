use Rattle.matching.proofs.entered.Entered.+enter.Given as goal

abbrev pub decreases-enter : goal.decreases-enter
decreases-enter l = l.i
