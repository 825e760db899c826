use Rattle.laws_types.proofs.ScopedTypes.{scopes_keep_types}
use Rattle.laws_types.proofs.laws.scopes_keep_types.Goals as goal

pub returns : goal.returns
returns c = scopes_keep_types
