use Rattle.laws_language.proofs.Stages.{goals_stay, calls_stay}
use Rattle.laws_language.proofs.laws.stages_stay.Goals as goal

pub returns-clause-goals : goal.returns-clause-goals
returns-clause-goals c = goals_stay

pub returns-clause-calls : goal.returns-clause-calls
returns-clause-calls c = calls_stay
