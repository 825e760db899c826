use Rattle.laws_types.proofs.ManyClauses.{goals_are_typed, typed_goals_join}
use Rattle.laws_types.proofs.laws.goals_are_typed.Goals as goal

pub returns-clause-general : goal.returns-clause-general
returns-clause-general c = goals_are_typed

pub returns-clause-each : goal.returns-clause-each
returns-clause-each c = typed_goals_join
