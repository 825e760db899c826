use Rattle.std.proofs.Common.{refl}
use Rattle.mc_clause_syntax.specs.GoalForms as Forms
use Rattle.mc_clauses.proofs.examples.unresolved_clauses.Goals as goal

pub returns-clause-variables : goal.returns-clause-variables
unfolding Forms.goal_rows
returns-clause-variables c = (refl, refl)

pub returns-clause-heads : goal.returns-clause-heads
unfolding Forms.goal_rows
returns-clause-heads c = (refl, refl)

pub returns-clause-quantifiers : goal.returns-clause-quantifiers
unfolding Forms.goal_rows
returns-clause-quantifiers c = refl

pub returns-clause-universals : goal.returns-clause-universals
unfolding Forms.goal_rows
returns-clause-universals c = (refl, refl)

pub returns-clause-conditionals : goal.returns-clause-conditionals
unfolding Forms.goal_rows
returns-clause-conditionals c = refl

pub returns-clause-goals : goal.returns-clause-goals
unfolding Forms.goal_rows
returns-clause-goals c = refl

pub returns-clause-lists : goal.returns-clause-lists
unfolding Forms.goal_rows
returns-clause-lists c = (refl, refl)

pub returns-clause-conjunctions : goal.returns-clause-conjunctions
unfolding Forms.goal_rows
returns-clause-conjunctions c = refl
