use Rattle.std.proofs.Common.{◌≡◌, ◌≤◌, ◌↔◌, take}
use Rattle.mc_program.specs.declared.value.Value.{size-Value}
use Rattle.mc_program.proofs.same.+same.Given as goal

abbrev pub invariant-same_fronts-loop-k : goal.invariant-same_fronts-loop-k
invariant-same_fronts-loop-k l = take l.k l.xs ≡ take l.k l.ys

abbrev pub invariant-same_value-loop-left : goal.invariant-same_value-loop-left
invariant-same_value-loop-left l = ((l.left ≡ l.right) ↔ (l.a ≡ l.b)) × (size-Value l.left ≤ size-Value l.a)

abbrev pub decreases-same_value-loop-left : goal.decreases-same_value-loop-left
decreases-same_value-loop-left l = size-Value l.left
