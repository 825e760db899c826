use Rattle.mc_det.proofs.Skeletons.{least_by_skeletons}
use Rattle.mc_det.proofs.law.least_by_skeletons.Goals as goal

pub returns : goal.returns
returns c = least_by_skeletons
