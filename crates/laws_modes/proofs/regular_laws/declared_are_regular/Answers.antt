use Rattle.laws_modes.proofs.Declared.{declared_are_regular}
use Rattle.laws_modes.proofs.regular_laws.declared_are_regular.Goals as goal

pub returns : goal.returns
returns c = declared_are_regular
