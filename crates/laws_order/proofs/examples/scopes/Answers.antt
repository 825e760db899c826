use Rattle.laws_order.proofs.OneName.{scopes_alone, scopes_apart}
use Rattle.laws_order.proofs.examples.scopes.Goals as goal

pub returns-clause-scopes_alone : goal.returns-clause-scopes_alone
returns-clause-scopes_alone c = scopes_alone

pub returns-clause-scopes_apart : goal.returns-clause-scopes_apart
returns-clause-scopes_apart c = scopes_apart
