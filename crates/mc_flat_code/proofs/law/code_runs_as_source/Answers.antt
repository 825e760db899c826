use Rattle.mc_flat_code.proofs.Source as S
use Rattle.mc_flat_code.proofs.law.code_runs_as_source.Goals as goal

pub returns-clause-goals : goal.returns-clause-goals
returns-clause-goals c = S.goals_run_as_source

pub returns-clause-bodies : goal.returns-clause-bodies
returns-clause-bodies c = S.bodies_run_as_source

pub returns-clause-calls : goal.returns-clause-calls
returns-clause-calls c = S.calls_run_as_source
