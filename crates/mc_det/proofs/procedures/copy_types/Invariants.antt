use Rattle.std.proofs.Common.{◌≡◌, take}
use Rattle.mc_det.proofs.procedures.copy_types.Given as goal

abbrev pub invariant-loop-ty : goal.invariant-loop-ty
invariant-loop-ty l = l.copy.items ≡ take l.ty-index l.ty-items
