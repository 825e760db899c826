use Rattle.std.proofs.Common.{drop}
use Rattle.mc_inst_table.specs.code.Others.{AreSized}
use Rattle.mc_inst_table.proofs.others.row_is_sized.Given as goal

abbrev pub invariant-loop-link : goal.invariant-loop-link
invariant-loop-link l = AreSized l.widths (drop l.link-index l.links) → AreSized l.widths l.links
