use Rattle.laws_modes.proofs.SmallPrograms.{trees_are_regular, turns_are_regular, nests_are_irregular, nests_meet_many}
use Rattle.laws_modes.proofs.examples.regular_types.Goals as goal

pub returns-clause-trees : goal.returns-clause-trees
returns-clause-trees c = trees_are_regular

pub returns-clause-turns : goal.returns-clause-turns
returns-clause-turns c = turns_are_regular

pub returns-clause-nests : goal.returns-clause-nests
returns-clause-nests c = nests_are_irregular

pub returns-clause-many : goal.returns-clause-many
returns-clause-many c = nests_meet_many
