use Rattle.laws_language.proofs.Stages.{no_goal_is_both, no_call_is_both}
use Rattle.laws_language.proofs.laws.nothing_is_both.Goals as goal

pub returns-clause-goals : goal.returns-clause-goals
returns-clause-goals c = no_goal_is_both

pub returns-clause-calls : goal.returns-clause-calls
returns-clause-calls c = no_call_is_both
