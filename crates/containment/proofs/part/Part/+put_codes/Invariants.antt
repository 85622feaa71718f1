use Rattle.containment.proofs.part.Part.+put_codes.Given as goal

abbrev pub decreases-put_codes : goal.decreases-put_codes
decreases-put_codes l = l.self.node
