use Rattle.std.proofs.Common.{◌+◌, ◌*◌}
use denote.Param.Weighed.{most}
use Rattle.mc_inst_table.specs.declared.inst.Inst.{size-Inst}
use Rattle.mc_inst_table.proofs.heads.+end_of.Given as goal

abbrev pub decreases-end_of : goal.decreases-end_of
decreases-end_of l = 2 * size-Inst l.inst.now

abbrev pub decreases-end_at : goal.decreases-end_at
decreases-end_at l = 2 * most size-Inst l.insts.now + 1
