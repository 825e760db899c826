use Rattle.laws_language.proofs.BareRuns.{goals_run_bare, calls_run_bare, queries_run_bare}
use Rattle.laws_language.proofs.laws.bare_runs_alike.Goals as goal

pub returns-clause-goals : goal.returns-clause-goals
returns-clause-goals c = goals_run_bare

pub returns-clause-calls : goal.returns-clause-calls
returns-clause-calls c = calls_run_bare

pub returns-clause-queries : goal.returns-clause-queries
returns-clause-queries c = queries_run_bare
