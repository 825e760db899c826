use Rattle.std.proofs.Common.{◌≡◌, ◌≤◌, ◌-◌, ◌↔◌, take}
use Rattle.mc_program.specs.declared.expr.Expr.{size-Expr}
use Rattle.mc_program.proofs.expr.+same.Given as goal

abbrev pub invariant-same_but_last-loop-k : goal.invariant-same_but_last-loop-k
invariant-same_but_last-loop-k l = take (l.k - 1) l.xs ≡ take (l.k - 1) l.ys

abbrev pub invariant-same_expr-loop-left : goal.invariant-same_expr-loop-left
invariant-same_expr-loop-left l = ((l.left ≡ l.right) ↔ (l.a ≡ l.b)) × (size-Expr l.left ≤ size-Expr l.a)

abbrev pub decreases-same_expr-loop-left : goal.decreases-same_expr-loop-left
decreases-same_expr-loop-left l = size-Expr l.left
