use Rattle.std.proofs.Common.{◌≡◌, ◌+◌, ◌*◌, max, drop}
use denote.Param.Weighed.{most}
use Rattle.mc_inst_table.specs.declared.inst.Inst.{size-Inst}
use Rattle.mc_inst_table.specs.Plain.{plain_insts}
use Rattle.mc_inst_table.specs.code.Ends.{all_need}
use Rattle.mc_inst_table.proofs.needs.+needs.Given as goal

abbrev pub decreases-needs : goal.decreases-needs
decreases-needs l = 2 * size-Inst l.inst.now

abbrev pub decreases-all_need : goal.decreases-all_need
decreases-all_need l = 2 * most size-Inst l.insts.now + 1

abbrev pub invariant-all_need-loop-inst : goal.invariant-all_need-loop-inst
invariant-all_need-loop-inst l =
    max l.most (all_need (plain_insts (drop l.inst-index l.insts))) ≡ all_need (plain_insts l.insts)
