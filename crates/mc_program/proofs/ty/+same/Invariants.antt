use Rattle.std.proofs.Common.{◌≡◌, ◌≤◌, ◌↔◌, take}
use Rattle.mc_program.specs.declared.ty.Ty.{size-Ty}
use Rattle.mc_program.proofs.ty.+same.Given as goal

abbrev pub invariant-same_fronts-loop-k : goal.invariant-same_fronts-loop-k
invariant-same_fronts-loop-k l = take l.k l.xs ≡ take l.k l.ys

abbrev pub invariant-same_type-loop-left : goal.invariant-same_type-loop-left
invariant-same_type-loop-left l = ((l.left ≡ l.right) ↔ (l.a ≡ l.b)) × (size-Ty l.left ≤ size-Ty l.a)

abbrev pub decreases-same_type-loop-left : goal.decreases-same_type-loop-left
decreases-same_type-loop-left l = size-Ty l.left
