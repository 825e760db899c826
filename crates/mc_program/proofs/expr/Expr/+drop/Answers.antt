use Rattle.std.proofs.Common.{arith, ◌≡◌, ◌+◌, ◌++◌, ◌∷◌, [], map, suc, ap, ◌∙◌}
use Rattle.mc_program.proofs.Parts.{total, in_expr, in_expr-Con, in_expr-args, total_push, total_hung, first_less, some_there}
use Rattle.mc_program.proofs.expr.Expr.+drop.Goals as goal

pub left-smaller-then-is_empty : goal.left-smaller-then-is_empty
left-smaller-then-is_empty t c =
    let popped = total_push in_expr _ _ _ (c.in-Some-pop.ensures {u = tt}) in
    let con = (c.in-Some-into_args.ensures {u = tt}).no_other in
    let taken = in_expr-args _ _ con in
    let kept = c.down.invariant in
    omega arith

pub left-smaller-then-is_empty-2 : goal.left-smaller-then-is_empty-2
left-smaller-then-is_empty-2 t c =
    let popped = total_push in_expr _ _ _ (c.in-Some-pop.ensures {u = tt}) in
    let kept = c.down.invariant in
    omega arith

pub left-smaller : goal.left-smaller
left-smaller t c =
    let popped = total_push in_expr _ _ _ (c.in-Some-pop.ensures {u = tt}) in
    let kept = c.down.invariant in
    omega arith

pub down-smaller : goal.down-smaller
down-smaller t c =
    let con = (c.in-Some-into_args.ensures {u = tt}).no_other in
    let taken = in_expr-args _ _ con in
    let some = some_there c.in-Some-into_args.args (λ e. let none = c.is_empty-in-Some-into_args.ensures.1 e in let not = c.if-is_empty-2.false in cc) in
    let less = first_less in_expr c.in-Some-into_args.args c.replace_first.result.0 some c.replace_first.ensures.first in
    omega arith

pub down-preserved : goal.down-preserved
down-preserved t c =
    let con = (c.in-Some-into_args.ensures {u = tt}).no_other in
    let taken = in_expr-args _ _ con in
    let some = some_there c.in-Some-into_args.args (λ e. let none = c.is_empty-in-Some-into_args.ensures.1 e in let not = c.if-is_empty-2.false in cc) in
    let moved = total_hung in_expr _ _ _ _ some c.replace_first.ensures.first c.replace_first.ensures.others in
    let link = in_expr-Con 0 c.down.left in
    let kept = c.down.invariant in
    omega arith
