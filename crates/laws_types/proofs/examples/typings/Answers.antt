use Rattle.laws_types.proofs.Typing.{typings}
use Rattle.laws_types.proofs.examples.typings.Goals as goal

pub returns : goal.returns
returns c = typings
