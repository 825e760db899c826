use Rattle.laws_types.proofs.Flags.{made_variables}
use Rattle.laws_types.proofs.examples.made_variables.Goals as goal

pub returns : goal.returns
returns c = made_variables
