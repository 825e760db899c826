use Rattle.laws_accepted.proofs.Groups.{groups_merge_as_all, merging_keeps_sets}
use Rattle.laws_accepted.proofs.acceptance_laws.groups_merge_as_all.Goals as goal

pub returns-clause-groups : goal.returns-clause-groups
returns-clause-groups c = groups_merge_as_all

pub returns-clause-sets : goal.returns-clause-sets
returns-clause-sets c = merging_keeps_sets
