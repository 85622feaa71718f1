use Rattle.matching.proofs.entered.Entered.+leave.Given as goal

abbrev pub decreases-leave : goal.decreases-leave
decreases-leave l = l.i
