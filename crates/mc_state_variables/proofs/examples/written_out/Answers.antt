use Rattle.std.proofs.Common.{refl}
use Rattle.mc_clause_syntax.specs.GoalForms as Forms
use Rattle.mc_clause_syntax.specs.StateVariables as States
use Rattle.mc_state_variables.proofs.examples.written_out.Goals as goal

pub returns-clause-atoms : goal.returns-clause-atoms
unfolding Forms.goal_rows States.state_rows
returns-clause-atoms c = (refl, refl)

pub returns-clause-conjunctions : goal.returns-clause-conjunctions
unfolding Forms.goal_rows States.state_rows
returns-clause-conjunctions c = (refl, refl)

pub returns-clause-disjunctions : goal.returns-clause-disjunctions
unfolding Forms.goal_rows States.state_rows
returns-clause-disjunctions c = (refl, refl, refl)

pub returns-clause-conditionals : goal.returns-clause-conditionals
unfolding Forms.goal_rows States.state_rows
returns-clause-conditionals c = (refl, refl, refl, refl)

pub returns-clause-quantified_conditions : goal.returns-clause-quantified_conditions
unfolding Forms.goal_rows States.state_rows
returns-clause-quantified_conditions c = refl

pub returns-clause-negations : goal.returns-clause-negations
unfolding Forms.goal_rows States.state_rows
returns-clause-negations c = (refl, refl, refl)

pub returns-clause-implications : goal.returns-clause-implications
unfolding Forms.goal_rows States.state_rows
returns-clause-implications c = (refl, refl, refl)

pub returns-clause-heads : goal.returns-clause-heads
unfolding Forms.goal_rows States.state_rows
returns-clause-heads c = (refl, refl, refl, refl, refl, refl)

pub returns-clause-quantifiers : goal.returns-clause-quantifiers
unfolding Forms.goal_rows States.state_rows
returns-clause-quantifiers c = (refl, refl, refl, refl, refl)
