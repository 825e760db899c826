use Rattle.std.proofs.Common.{arith, ◌≡◌, ◌++◌, ◌∷◌, [], sym, ap, ◌∙◌}
use Rattle.mc_program.proofs.Fronts.{front_last, last_below, opens, closes}
use Rattle.mc_program.proofs.Overs.{over_expr, headed, is_headed, stands_over, made_above, applied_above}
use Rattle.mc_program.specs.declared.expr.Expr.{size-Expr}
use Rattle.mc_program.specs.declared.expr.Head.TheVariants.{Con, Apply}
use Rattle.mc_program.proofs.expr.+copy.Goals as goal

pub copy_expr-loop-rest-preserved-in-len1-up : goal.copy_expr-loop-rest-preserved-in-len1-up
copy_expr-loop-rest-preserved-in-len1-up t c =
    let last = c.last-item.result in
    let front = c.in_ok-front_of-in-len1-up.ensures {u = tt} in
    let split : c.in-Con.args ≡ c.in_ok-front_of-in-len1-up.field-0.args ++ (last ∷ []) =
    sym c.as_slice.ensures.items ∙ front_last _ _ c.in-len1-up.len_at_least c.last-item.is ∙ ap (λ l. l ++ (last ∷ [])) (sym front.1) in
    let smaller = last_below size-Expr _ _ _ _ split (made_above _ _ _ c.in-Con.is) in
    (opens _ _ over_expr _ _ _ _ _ _ (stands_over c.in_ok-front_of-in-len1-up.field-0 (Con _) _ _ _ front.0 c.in-Con.is split) (c.in_ok-push-in-len1-up.ensures {u = tt}).items c.loop-rest.invariant.0, omega arith)

pub copy_expr-loop-rest-preserved : goal.copy_expr-loop-rest-preserved
copy_expr-loop-rest-preserved t c =
    let last = c.last-item-in-Apply.result in
    let front = c.in_ok-front_of-in-len1-up-as_slice.ensures {u = tt} in
    let split : c.in-Apply.args ≡ c.in_ok-front_of-in-len1-up-as_slice.field-0.args ++ (last ∷ []) =
    sym c.as_slice-in-Apply.ensures.items ∙ front_last _ _ c.in-len1-up-as_slice.len_at_least c.last-item-in-Apply.is ∙ ap (λ l. l ++ (last ∷ [])) (sym front.1) in
    let smaller = last_below size-Expr _ _ _ _ split (applied_above _ _ _ c.in-Apply.is) in
    (opens _ _ over_expr _ _ _ _ _ _ (stands_over c.in_ok-front_of-in-len1-up-as_slice.field-0 (Apply _) _ _ _ front.0 c.in-Apply.is split) (c.in_ok-push-in-len1-up-as_slice.ensures {u = tt}).items c.loop-rest.invariant.0, omega arith)

pub copy_expr-loop-front-preserved : goal.copy_expr-loop-front-preserved
copy_expr-loop-front-preserved t c =
    closes _ _ over_expr _ _ _ _ _ _ (c.in-Some.ensures {u = tt}).items
    (is_headed _ _ _ c.over-copy.ensures.made c.over-copy.ensures.applied ∙ ap (headed _) (c.in_ok-push.ensures {u = tt}).ok) c.loop-front.invariant
