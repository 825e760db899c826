use Rattle.mc_analysis.proofs.analysis.analyse.Goals as goal

pub check_preconditions-requires-clause-as_many : goal.check_preconditions-requires-clause-as_many
check_preconditions-requires-clause-as_many c = c.requires.goals.as_many

pub check_preconditions-requires-clause-sigs : goal.check_preconditions-requires-clause-sigs
check_preconditions-requires-clause-sigs c = c.requires.sigs

pub by_order-requires-clause-asked : goal.by_order-requires-clause-asked
by_order-requires-clause-asked c = c.in_ok-check_preconditions.ensures {u = tt}
