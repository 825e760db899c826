use Rattle.std.proofs.Common.{◌≡◌, ◌++◌, drop, map}
use Rattle.mc_model.specs.declared.inst.InstRef.TheVariants.{Old}
use Rattle.mc_mode_state.proofs.finding.old_insts.Given as goal

abbrev pub invariant-loop-inst : goal.invariant-loop-inst
invariant-loop-inst l = l.row.items ++ map Old (drop l.inst-index l.insts) ≡ map Old l.insts
