use Rattle.laws_types.proofs.WholeTypes.{whole_types_fit}
use Rattle.laws_types.proofs.whole_laws.whole_types_fit.Goals as goal

pub returns : goal.returns
returns c = whole_types_fit
