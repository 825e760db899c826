use Rattle.std.proofs.Common.{sym, subst}
use Rattle.mc_inst_table.specs.code.Others.{NoneMarked}
use Rattle.mc_inst_table.proofs.Sizing.{none_marked}
use Rattle.mc_inst_table.proofs.others.none_marked.Goals as goal

pub returns : goal.returns
returns c = none_marked c.in_ok-marks.marks (subst NoneMarked (sym c.in_ok-marks.ensures.elements) c.loop-k.invariant)
