use Rattle.std.proofs.Common.{arith, ◌≡◌, ◌++◌, ◌∷◌, [], sym, ap, ◌∙◌}
use Rattle.mc_program.proofs.Fronts.{front_last, last_below, opens, closes}
use Rattle.mc_program.proofs.Overs.{over_value, con_above}
use Rattle.mc_program.specs.declared.value.Value.{Con, size-Value}
use Rattle.mc_program.proofs.copy.+copy.Goals as goal

pub copy_value-loop-rest-preserved : goal.copy_value-loop-rest-preserved
copy_value-loop-rest-preserved t c =
    let split : c.in-Con.args ≡ c.in_ok-args-in-len1-up.args ++ (c.last-item.result ∷ []) =
    sym c.as_slice.ensures.items ∙ front_last _ _ c.in-len1-up.len_at_least c.last-item.is ∙ ap (λ l. l ++ (c.last-item.result ∷ [])) (sym (c.in_ok-args-in-len1-up.ensures {u = tt})) in
    let smaller = last_below size-Value _ _ _ _ split (con_above _ _ _ c.in-Con.is) in
    (opens _ _ over_value _ _ _ _ _ _ (c.in-Con.is ∙ ap (Con _) split) (c.in-Ok.ensures {u = tt}).items c.loop-rest.invariant.0, omega arith)

pub copy_value-loop-front-preserved : goal.copy_value-loop-front-preserved
copy_value-loop-front-preserved t c =
    closes _ _ over_value _ _ _ _ _ _ (c.in-Some.ensures {u = tt}).items (ap (Con _) (c.in_ok-push.ensures {u = tt}).ok) c.loop-front.invariant
