use Rattle.std.proofs.Common.{◌↔◌}
use Rattle.mc_cmd.specs.code.Looking.{AreBelow, LeftBelow, looks_left}
use Rattle.mc_cmd.proofs.named.are_named.Given as goal

abbrev pub invariant-loop-next : goal.invariant-loop-next
invariant-loop-next l = LeftBelow l.count l.left.items ↔ AreBelow l.count l.values

abbrev pub decreases-loop-next : goal.decreases-loop-next
decreases-loop-next l = looks_left l.left.items
