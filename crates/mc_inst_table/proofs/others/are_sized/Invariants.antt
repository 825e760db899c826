use Rattle.std.proofs.Common.{◌<◌, ℕ}
use Rattle.mc_inst_table.specs.code.Places.{links_at}
use Rattle.mc_inst_table.specs.code.Others.{AreSized}
use Rattle.mc_inst_table.proofs.others.are_sized.Given as goal

abbrev pub invariant-loop-row : goal.invariant-loop-row
invariant-loop-row l = (d : ℕ) → d < l.row-index → AreSized l.widths (links_at l.links d)
