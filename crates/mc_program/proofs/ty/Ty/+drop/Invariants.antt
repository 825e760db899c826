use Rattle.std.proofs.Common.{◌+◌, ◌≤◌, map}
use Rattle.mc_program.proofs.Parts.{total, in_type}
use Rattle.mc_program.proofs.ty.Ty.+drop.Given as goal

abbrev pub invariant-down : goal.invariant-down
invariant-down l = total (map in_type l.left) + in_type l.part ≤ total (map in_type l.initial.left) + in_type l.initial.part

abbrev pub decreases-down : goal.decreases-down
decreases-down l = in_type l.part

abbrev pub decreases-left : goal.decreases-left
decreases-left l = total (map in_type l.left)
