use Rattle.tests_insts.proofs.paths.+allows_either.Given as goal

abbrev pub decreases-allows_either : goal.decreases-allows_either
decreases-allows_either l = l.steps
