use Rattle.std.proofs.Common.{◌≡◌, length}
use Rattle.mc_inst_table.specs.code.Insides.{AllNone}
use Rattle.mc_inst_table.proofs.inside.none_inside.Given as goal

abbrev pub invariant-loop-k : goal.invariant-loop-k
invariant-loop-k l = (length l.inside.items ≡ l.k) × AllNone l.inside.items
