use Rattle.laws_accepted.proofs.Grouping.{switches_keep_lists}
use Rattle.laws_accepted.proofs.Forms.{forms_keep_lists}
use Rattle.laws_accepted.proofs.WholeGoals.{goals_keep_lists}
use Rattle.laws_accepted.proofs.laws.switches_keep_lists.Goals as goal

pub returns-clause-disjuncts : goal.returns-clause-disjuncts
returns-clause-disjuncts c = switches_keep_lists

pub returns-clause-goals : goal.returns-clause-goals
returns-clause-goals c = forms_keep_lists

pub returns-clause-whole : goal.returns-clause-whole
returns-clause-whole c = goals_keep_lists
