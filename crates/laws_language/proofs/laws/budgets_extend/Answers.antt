use Rattle.laws_language.proofs.Prefixes.{budgets_extend, budgets_extend_calls, budgets_extend_queries}
use Rattle.laws_language.proofs.laws.budgets_extend.Goals as goal

pub returns-clause-goals : goal.returns-clause-goals
returns-clause-goals c = budgets_extend

pub returns-clause-calls : goal.returns-clause-calls
returns-clause-calls c = budgets_extend_calls

pub returns-clause-queries : goal.returns-clause-queries
returns-clause-queries c = budgets_extend_queries
