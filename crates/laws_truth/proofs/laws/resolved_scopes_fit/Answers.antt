use Rattle.laws_truth.proofs.ResolvedNames.{resolved_name_their_own, resolved_scopes_fit}
use Rattle.laws_truth.proofs.laws.resolved_scopes_fit.Goals as goal

pub returns-clause-own : goal.returns-clause-own
returns-clause-own c = resolved_name_their_own

pub returns-clause-scopes : goal.returns-clause-scopes
returns-clause-scopes c = resolved_scopes_fit
