use Rattle.tests_insts.proofs.small_graphs.SmallGraph.+no_more.Given as goal

abbrev pub decreases-no_more : goal.decreases-no_more
decreases-no_more l = l.steps
