use Rattle.std.proofs.Common.{◌≡◌, take, map}
use Rattle.mc_insts.specs.code.Tables.{constructor_of}
use Rattle.mc_insts.proofs.rows.sorted_constructors.Given as goal

abbrev pub invariant-loop-s : goal.invariant-loop-s
invariant-loop-s l = l.all.items ≡ map (constructor_of l.symbols) (take l.s-index l.listed)
