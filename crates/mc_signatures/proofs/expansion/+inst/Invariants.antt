use Rattle.std.proofs.Common.{◌+◌, ◌*◌, length, map, take}
use denote.Param.Weighed.{most}
use Rattle.mc_insts.specs.code.Lists.{Extends}
use Rattle.mc_inst_table.specs.declared.inst.Inst.{size-Inst}
use Rattle.mc_inst_table.specs.Plain.{plain_inst}
use Rattle.mc_signatures.specs.code.Keys.{terms, AllBelow, AreInsts, with_insts}
use Rattle.mc_signatures.proofs.expansion.+inst.Given as goal

abbrev pub decreases-expanded : goal.decreases-expanded
decreases-expanded l = 2 * size-Inst l.inst.now

abbrev pub decreases-all_expanded : goal.decreases-all_expanded
decreases-all_expanded l = 2 * most size-Inst l.listed.now + 1

abbrev pub invariant-all_expanded-loop-inst : goal.invariant-all_expanded-loop-inst
invariant-all_expanded-loop-inst l = record {
  extends : Extends (terms l.initial.insts) (terms l.insts);
  below : AllBelow (length (terms l.insts)) l.over;
  insts : AreInsts (terms l.insts) l.all.items (map (with_insts (terms l.initial.insts) l.over) (map plain_inst (take l.inst-index l.listed)));
}
