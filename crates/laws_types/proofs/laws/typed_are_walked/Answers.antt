use Rattle.laws_types.proofs.TypedClauses.{typed_are_walked}
use Rattle.laws_types.proofs.laws.typed_are_walked.Goals as goal

pub returns : goal.returns
returns c = typed_are_walked
