use Rattle.mc_det.proofs.Skeletons.{skeletons_tell}
use Rattle.mc_det.proofs.law.skeletons_tell.Goals as goal

pub returns : goal.returns
returns c = skeletons_tell
