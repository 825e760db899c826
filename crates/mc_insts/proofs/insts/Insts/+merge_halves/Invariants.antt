use Rattle.std.proofs.Common.{length}
use Rattle.mc_insts.proofs.insts.Insts.+merge_halves.Given as goal

-- proposed from what the function passes where it calls itself
abbrev pub decreases-merge_halves : goal.decreases-merge_halves
decreases-merge_halves l = length l.insts.now
