use Rattle.std.proofs.Common.{◌≡◌, ◌≤◌, take, vec_len}
use Rattle.mc_program.specs.declared.expr.Expr.{Expr, size-Expr}
use Rattle.mc_program.specs.declared.expr.TermFront.{TermFront}
use Rattle.mc_program.proofs.Fronts.{rebuilt}
use Rattle.mc_program.proofs.Overs.{over_expr}
use Rattle.mc_program.proofs.expr.+copy.Given as goal

abbrev pub invariant-copy_expr-loop-rest : goal.invariant-copy_expr-loop-rest
invariant-copy_expr-loop-rest l = (rebuilt Expr TermFront over_expr l.fronts.items l.rest ≡ l.e) × (size-Expr l.rest ≤ size-Expr l.e)

abbrev pub invariant-copy_expr-loop-front : goal.invariant-copy_expr-loop-front
invariant-copy_expr-loop-front l = rebuilt Expr TermFront over_expr l.fronts.items l.copy ≡ l.e

abbrev pub decreases-copy_expr-loop-front : goal.decreases-copy_expr-loop-front
decreases-copy_expr-loop-front l = vec_len l.fronts

abbrev pub invariant-front_of-loop-e : goal.invariant-front_of-loop-e
invariant-front_of-loop-e l = l.args ≡ take l.e-index l.front
