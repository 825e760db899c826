use Rattle.std.proofs.Common.{◌≡◌, map, take}
use Rattle.mc_insts.specs.code.Bounds.{inst_in}
use Rattle.mc_insts.proofs.bounds.args_of.Given as goal

abbrev pub invariant-loop-arg : goal.invariant-loop-arg
invariant-loop-arg l = l.row.items ≡ map (inst_in l.insts) (take l.arg-index l.args)
