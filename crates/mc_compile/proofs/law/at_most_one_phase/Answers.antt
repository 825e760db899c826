use Rattle.mc_compile.proofs.OnePhase as O
use Rattle.mc_compile.proofs.law.at_most_one_phase.Goals as goal

pub returns-clause-reads : goal.returns-clause-reads
returns-clause-reads c = let g = c.at_most_one_goal.ensures in O.one_read c.at_most_one_list.ensures g.one_goal g.not_both g.one_refusal

pub returns-clause-links : goal.returns-clause-links
returns-clause-links c = O.one_link c.at_most_one_list.ensures

pub returns-clause-types : goal.returns-clause-types
returns-clause-types c = O.one_type_table

pub returns-clause-clauses : goal.returns-clause-clauses
returns-clause-clauses c = O.one_list_of_clauses c.at_most_one_list-2.ensures
