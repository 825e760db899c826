use Rattle.std.proofs.Common.{◌≡◌, ◌+◌, ◌*◌, ◌++◌, drop}
use denote.Param.Weighed.{most}
use Rattle.mc_inst_table.specs.declared.inst.Inst.{size-Inst}
use Rattle.mc_inst_table.specs.Plain.{plain_insts}
use Rattle.mc_inst_table.specs.code.Ends.{head_at}
use Rattle.mc_inst_table.specs.code.Insides.{inside_at, all_put_ends}
use Rattle.mc_inst_table.proofs.inside.+put_ends.Given as goal

abbrev pub decreases-put_ends : goal.decreases-put_ends
decreases-put_ends l = 2 * size-Inst l.inst.now

abbrev pub decreases-put_all_ends : goal.decreases-put_all_ends
decreases-put_all_ends l = 2 * most size-Inst l.insts.now + 1

abbrev pub invariant-put_all_ends-loop-inst : goal.invariant-put_all_ends-loop-inst
invariant-put_all_ends-loop-inst l =
    l.ends.items ++ all_put_ends (head_at l.heads) (inside_at l.inside) (plain_insts (drop l.inst-index l.insts))
    ≡ l.initial.ends.items ++ all_put_ends (head_at l.heads) (inside_at l.inside) (plain_insts l.insts)
