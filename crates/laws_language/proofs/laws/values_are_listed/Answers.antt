use Rattle.laws_language.proofs.Switches.{values_are_listed}
use Rattle.laws_language.proofs.laws.values_are_listed.Goals as goal

pub returns : goal.returns
returns c = values_are_listed
