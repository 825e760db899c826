use Rattle.std.proofs.Common.{◌≡◌}
use Rattle.mc_model.specs.Lists.{from}
use Rattle.mc_goals.proofs.shape.below.Given as goal

abbrev pub invariant-loop-k : goal.invariant-loop-k
invariant-loop-k l = l.numbers.items ≡ from 0 l.k
