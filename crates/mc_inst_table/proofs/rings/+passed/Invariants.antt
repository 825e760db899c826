use Rattle.std.proofs.Common.{◌+◌, ◌*◌}
use denote.Param.Weighed.{most}
use Rattle.mc_inst_table.specs.declared.inst.Inst.{size-Inst}
use Rattle.mc_inst_table.proofs.rings.+passed.Given as goal

abbrev pub decreases-put_passed : goal.decreases-put_passed
decreases-put_passed l = 2 * size-Inst l.inst.now

abbrev pub decreases-put_passed_at : goal.decreases-put_passed_at
decreases-put_passed_at l = 2 * most size-Inst l.insts.now + 1
