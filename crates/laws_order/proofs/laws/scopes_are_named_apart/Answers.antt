use Rattle.laws_order.proofs.ScopedNames.{scoped_named_apart}
use Rattle.laws_order.proofs.laws.scopes_are_named_apart.Goals as goal

pub returns : goal.returns
returns c = scoped_named_apart
