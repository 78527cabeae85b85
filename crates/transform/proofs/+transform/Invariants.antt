use Rattle.transform.proofs.+transform.Given as goal

abbrev pub decreases-transform : goal.decreases-transform
decreases-transform l = l.inputs
