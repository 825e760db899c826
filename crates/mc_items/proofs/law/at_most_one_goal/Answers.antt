use Rattle.mc_items.proofs.OneGoal.{one_goal, goal_not_broken, one_query_refusal}
use Rattle.mc_items.proofs.law.at_most_one_goal.Goals as goal

pub returns-clause-one_goal : goal.returns-clause-one_goal
returns-clause-one_goal c text = one_goal c.at_most_one_term.ensures text

pub returns-clause-not_both : goal.returns-clause-not_both
returns-clause-not_both c file text = goal_not_broken c.at_most_one_term.ensures text file

pub returns-clause-one_refusal : goal.returns-clause-one_refusal
returns-clause-one_refusal c file text = one_query_refusal c.at_most_one_term.ensures text file
