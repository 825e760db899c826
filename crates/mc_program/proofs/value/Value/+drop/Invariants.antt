use Rattle.std.proofs.Common.{◌+◌, ◌≤◌, map}
use Rattle.mc_program.proofs.Parts.{total, in_value}
use Rattle.mc_program.proofs.value.Value.+drop.Given as goal

abbrev pub invariant-down : goal.invariant-down
invariant-down l = total (map in_value l.left) + in_value l.value ≤ total (map in_value l.initial.left) + in_value l.initial.value

abbrev pub decreases-down : goal.decreases-down
decreases-down l = in_value l.value

abbrev pub decreases-left : goal.decreases-left
decreases-left l = total (map in_value l.left)
