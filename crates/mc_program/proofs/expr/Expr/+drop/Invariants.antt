use Rattle.std.proofs.Common.{◌+◌, ◌≤◌, map}
use Rattle.mc_program.proofs.Parts.{total, in_expr}
use Rattle.mc_program.proofs.expr.Expr.+drop.Given as goal

abbrev pub invariant-down : goal.invariant-down
invariant-down l = total (map in_expr l.left) + in_expr l.part ≤ total (map in_expr l.initial.left) + in_expr l.initial.part

abbrev pub decreases-down : goal.decreases-down
decreases-down l = in_expr l.part

abbrev pub decreases-left : goal.decreases-left
decreases-left l = total (map in_expr l.left)
