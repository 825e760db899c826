use Rattle.std.proofs.Common.{◌≡◌, ◌+◌, ◌*◌, drop}
use denote.Param.Weighed.{most}
use Rattle.mc_accepted.specs.InstRules.{Bodies}
use Rattle.mc_inst_table.specs.declared.inst.Inst.{size-Inst}
use Rattle.mc_inst_table.specs.Plain.{plain_insts}
use Rattle.mc_inst_table.specs.code.Ends.{AreFull, AreNeeds}
use Rattle.mc_inst_table.proofs.needs.+full.Given as goal

abbrev pub decreases-is_full : goal.decreases-is_full
decreases-is_full l = 2 * size-Inst l.inst.now

abbrev pub decreases-are_full : goal.decreases-are_full
decreases-are_full l = 2 * most size-Inst l.insts.now + 1

abbrev pub invariant-are_full-loop-inst : goal.invariant-are_full-loop-inst
invariant-are_full-loop-inst l =
    (body : Bodies) → AreNeeds body l.needs
    → AreFull body (plain_insts (drop l.inst-index l.insts)) → AreFull body (plain_insts l.insts)
