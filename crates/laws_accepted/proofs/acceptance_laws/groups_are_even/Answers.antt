use Rattle.laws_accepted.proofs.EvenGroups.{groups_are_even}
use Rattle.laws_accepted.proofs.acceptance_laws.groups_are_even.Goals as goal

pub returns : goal.returns
returns c = groups_are_even
