use Rattle.std.proofs.Common.{rules}
use Rattle.mc_program.specs.declared.program.Goal.{the_lemmas}
use Rattle.mc_goals.proofs.goals.+goals.Goals as goal

pub add_goal-returns-in-Disj : goal.add_goal-returns-in-Disj
add_goal-returns-in-Disj t c = search (rules, the_lemmas)

pub add_goal-returns-in-Ite : goal.add_goal-returns-in-Ite
add_goal-returns-in-Ite t c = search (rules, the_lemmas)

pub add_goal-returns-in-Not : goal.add_goal-returns-in-Not
add_goal-returns-in-Not t c = search (rules, the_lemmas)

pub add_goal-returns-in-Some : goal.add_goal-returns-in-Some
add_goal-returns-in-Some t c = search (rules, the_lemmas)

pub add_goal-returns-in-Equal : goal.add_goal-returns-in-Equal
add_goal-returns-in-Equal t c = search (rules, the_lemmas)

pub add_goal-returns-in-Call : goal.add_goal-returns-in-Call
add_goal-returns-in-Call t c = search (rules, the_lemmas)
