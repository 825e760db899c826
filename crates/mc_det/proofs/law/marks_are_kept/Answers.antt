use Rattle.mc_det.proofs.Marking.{marks_are_kept}
use Rattle.mc_det.proofs.law.marks_are_kept.Goals as goal

pub returns : goal.returns
returns c = marks_are_kept
