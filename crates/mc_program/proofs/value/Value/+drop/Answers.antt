use Rattle.std.proofs.Common.{arith, ◌≡◌, ◌+◌, ◌++◌, ◌∷◌, [], map, suc, ap, ◌∙◌}
use Rattle.mc_program.proofs.Parts.{total, in_value, in_value-Con, total_push, total_hung, first_less, some_there}
use Rattle.mc_program.proofs.value.Value.+drop.Goals as goal

pub left-smaller-then-is_empty : goal.left-smaller-then-is_empty
left-smaller-then-is_empty t c =
    let popped = total_push in_value _ _ _ (c.in-Some-pop.ensures {u = tt}) in
    let con = (c.in-Some-into_args.ensures {u = tt}).no_other in
    let taken = ap in_value con.1 ∙ in_value-Con _ _ in
    let kept = c.down.invariant in
    omega arith

pub left-smaller-then-is_empty-2 : goal.left-smaller-then-is_empty-2
left-smaller-then-is_empty-2 t c =
    let popped = total_push in_value _ _ _ (c.in-Some-pop.ensures {u = tt}) in
    let kept = c.down.invariant in
    omega arith

pub left-smaller : goal.left-smaller
left-smaller t c =
    let popped = total_push in_value _ _ _ (c.in-Some-pop.ensures {u = tt}) in
    let kept = c.down.invariant in
    omega arith

pub down-smaller : goal.down-smaller
down-smaller t c =
    let con = (c.in-Some-into_args.ensures {u = tt}).no_other in
    let taken = ap in_value con.1 ∙ in_value-Con _ _ in
    let some = some_there c.in-Some-into_args.args (λ e. let none = c.is_empty-in-Some-into_args.ensures.1 e in let not = c.if-is_empty-2.false in cc) in
    let less = first_less in_value c.in-Some-into_args.args c.replace_first.result.0 some c.replace_first.ensures.first in
    omega arith

pub down-preserved : goal.down-preserved
down-preserved t c =
    let con = (c.in-Some-into_args.ensures {u = tt}).no_other in
    let taken = ap in_value con.1 ∙ in_value-Con _ _ in
    let some = some_there c.in-Some-into_args.args (λ e. let none = c.is_empty-in-Some-into_args.ensures.1 e in let not = c.if-is_empty-2.false in cc) in
    let moved = total_hung in_value _ _ _ _ some c.replace_first.ensures.first c.replace_first.ensures.others in
    let link = in_value-Con 0 c.down.left in
    let kept = c.down.invariant in
    omega arith
