use Rattle.std.proofs.Common.{◌≡◌, ◌+◌, ◌*◌, ◌++◌, drop}
use denote.Param.Weighed.{most}
use Rattle.mc_inst_table.specs.declared.inst.Inst.{size-Inst}
use Rattle.mc_inst_table.specs.Plain.{plain_insts}
use Rattle.mc_inst_table.specs.code.Links.{all_links}
use Rattle.mc_inst_table.proofs.links.+links.Given as goal

abbrev pub decreases-put_links : goal.decreases-put_links
decreases-put_links l = 2 * size-Inst l.inst.now

abbrev pub decreases-put_all_links : goal.decreases-put_all_links
decreases-put_all_links l = 2 * most size-Inst l.insts.now + 1

abbrev pub invariant-put_all_links-loop-inst : goal.invariant-put_all_links-loop-inst
invariant-put_all_links-loop-inst l =
    l.found.items ++ all_links (plain_insts (drop l.inst-index l.insts))
    ≡ l.initial.found.items ++ all_links (plain_insts l.insts)
