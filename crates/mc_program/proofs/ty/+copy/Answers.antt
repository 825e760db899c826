use Rattle.std.proofs.Common.{arith, ◌≡◌, ◌++◌, ◌∷◌, [], sym, ap, ◌∙◌}
use Rattle.mc_program.proofs.Fronts.{front_last, last_below, opens, closes}
use Rattle.mc_program.proofs.Overs.{over_type, union_above}
use Rattle.mc_program.specs.declared.ty.Ty.{Union, size-Ty}
use Rattle.mc_program.proofs.ty.+copy.Goals as goal

pub copy_type-loop-rest-preserved : goal.copy_type-loop-rest-preserved
copy_type-loop-rest-preserved t c =
    let split : c.in-Union.args ≡ c.in_ok-args-in-len1-up.args ++ (c.last-item.result ∷ []) =
    sym c.as_slice.ensures.items ∙ front_last _ _ c.in-len1-up.len_at_least c.last-item.is ∙ ap (λ l. l ++ (c.last-item.result ∷ [])) (sym (c.in_ok-args-in-len1-up.ensures {u = tt})) in
    let smaller = last_below size-Ty _ _ _ _ split (union_above _ _ _ c.in-Union.is) in
    (opens _ _ over_type _ _ _ _ _ _ (c.in-Union.is ∙ ap (Union _) split) (c.in-Ok.ensures {u = tt}).items c.loop-rest.invariant.0, omega arith)

pub copy_type-loop-front-preserved : goal.copy_type-loop-front-preserved
copy_type-loop-front-preserved t c =
    closes _ _ over_type _ _ _ _ _ _ (c.in-Some.ensures {u = tt}).items (ap (Union _) (c.in_ok-push.ensures {u = tt}).ok) c.loop-front.invariant
