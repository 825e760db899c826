use Rattle.std.proofs.Common.{◌≡◌, map, take}
use Rattle.mc_det_constraints.specs.code.Raising.{starts}
use Rattle.mc_det_constraints.proofs.inference.starting.Given as goal

abbrev pub invariant-loop-d : goal.invariant-loop-d
invariant-loop-d l = l.dets.items ≡ map starts (take l.d-index l.declared)
