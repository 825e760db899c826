use Rattle.laws_accepted.proofs.KeptArms.{kept_merge_arms}
use Rattle.laws_accepted.proofs.acceptance_laws.kept_merge_arms.Goals as goal

pub returns : goal.returns
returns c = kept_merge_arms
