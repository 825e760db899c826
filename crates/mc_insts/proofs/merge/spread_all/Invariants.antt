use Rattle.std.proofs.Common.{◌≡◌, map, take}
use Rattle.mc_insts.specs.code.Merges.{spread}
use Rattle.mc_insts.proofs.merge.spread_all.Given as goal

abbrev pub invariant-loop-case : goal.invariant-loop-case
invariant-loop-case l = l.out.items ≡ map (spread l.i) (take l.case-index l.cases)
