use Rattle.laws_language.proofs.AcceptedBranches.{branches_are_accepted}
use Rattle.laws_language.proofs.examples.accepted_branches.Goals as goal

pub returns : goal.returns
returns c = branches_are_accepted
