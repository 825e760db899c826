use Rattle.laws_made_types.proofs.Generals.{types_are_general}
use Rattle.laws_made_types.proofs.laws.types_are_general.Goals as goal

pub returns : goal.returns
returns c = types_are_general
