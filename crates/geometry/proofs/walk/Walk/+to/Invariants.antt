use Rattle.geometry.proofs.walk.Walk.+to.Given as goal

abbrev pub decreases-to : goal.decreases-to
decreases-to l = l.extension.0
