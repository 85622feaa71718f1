use Rattle.containment.proofs.part.Part.+spread.Given as goal

abbrev pub decreases-spread : goal.decreases-spread
decreases-spread l = l.self.node
