use Rattle.mc_det.proofs.Pruning.{pruned_keep_marks}
use Rattle.mc_det.proofs.law.pruned_keep_marks.Goals as goal

pub returns : goal.returns
returns c = pruned_keep_marks
