use Rattle.laws_types.proofs.WalksAndGoals.{characters_are_bare, constructors_are_listed}
use Rattle.laws_types.proofs.examples.walks_apart.Goals as goal

pub returns-clause-characters : goal.returns-clause-characters
returns-clause-characters c = characters_are_bare

pub returns-clause-constructors : goal.returns-clause-constructors
returns-clause-constructors c = constructors_are_listed
