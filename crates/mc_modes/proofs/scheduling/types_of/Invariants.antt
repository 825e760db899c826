use Rattle.std.proofs.Common.{◌≡◌, take}
use Rattle.mc_modes.proofs.scheduling.types_of.Given as goal

abbrev pub invariant-loop-t : goal.invariant-loop-t
invariant-loop-t l = l.list.items ≡ take l.t-index l.t-items
