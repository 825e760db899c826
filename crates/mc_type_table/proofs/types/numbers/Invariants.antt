use Rattle.std.proofs.Common.{◌≡◌}
use Rattle.mc_model.specs.Lists.{from}
use Rattle.mc_type_table.proofs.types.numbers.Given as goal

abbrev pub invariant-loop-k : goal.invariant-loop-k
invariant-loop-k l = l.all.items ≡ from l.first l.k
