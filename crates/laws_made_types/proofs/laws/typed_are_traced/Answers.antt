use Rattle.laws_made_types.proofs.TypedClauses.{typed_are_traced}
use Rattle.laws_made_types.proofs.laws.typed_are_traced.Goals as goal

pub returns : goal.returns
returns c = typed_are_traced
