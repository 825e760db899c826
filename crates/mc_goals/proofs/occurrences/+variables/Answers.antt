use Rattle.std.proofs.Common.{arith, ◌≡◌, ◌++◌, ◌∷◌, [], length, sym, ap, ◌∙◌}
use Rattle.mc_program.proofs.Fronts.{front_last, last_below}
use Rattle.mc_program.proofs.Overs.{made_above, applied_above}
use Rattle.mc_program.specs.PlainPrograms.{plain_expression}
use Rattle.mc_program.specs.declared.expr.Expr.{size-Expr}
use Rattle.mc_goals.specs.declared.building.Head.TheVariants.{Con, Apply}
use Rattle.mc_goals.proofs.Views.{plain_expression-Con, plain_expression-Apply}
use Rattle.mc_goals.proofs.TermVariables.{front_pushed, none_pushed}
use Rattle.mc_goals.proofs.occurrences.+variables.Goals as goal

pub push_variables-loop-rest-preserved-in-len1-up : goal.push_variables-loop-rest-preserved-in-len1-up
push_variables-loop-rest-preserved-in-len1-up t c =
    let last = c.last-item.result in
    let split : c.in-Con.args ≡ _ ++ (last ∷ []) = sym c.as_slice.ensures.items ∙ front_last _ _ c.in-len1-up.len_at_least c.last-item.is in
    let smaller = last_below size-Expr _ _ _ _ split (made_above _ _ _ c.in-Con.is) in
    (front_pushed (Con c.in-Con.field-0) _ _ _ last _ _ _ (ap plain_expression c.in-Con.is ∙ plain_expression-Con _ _) split (c.in_ok-push_all_variables-in-len1-up.ensures {u = tt}) c.loop-rest.invariant.0, omega arith)

pub push_variables-returns-in-empty-as_slice : goal.push_variables-returns-in-empty-as_slice
push_variables-returns-in-empty-as_slice t c =
    none_pushed (Apply c.in-Apply.field-0) _ c.in-Apply.args _ _ (ap plain_expression c.in-Apply.is ∙ plain_expression-Apply _ _) (omega (arith, ap length c.as_slice-in-Apply.ensures.items)) c.loop-rest.invariant.0

pub push_variables-loop-rest-preserved : goal.push_variables-loop-rest-preserved
push_variables-loop-rest-preserved t c =
    let last = c.last-item-in-Apply.result in
    let split : c.in-Apply.args ≡ _ ++ (last ∷ []) = sym c.as_slice-in-Apply.ensures.items ∙ front_last _ _ c.in-len1-up-as_slice.len_at_least c.last-item-in-Apply.is in
    let smaller = last_below size-Expr _ _ _ _ split (applied_above _ _ _ c.in-Apply.is) in
    (front_pushed (Apply c.in-Apply.field-0) _ _ _ last _ _ _ (ap plain_expression c.in-Apply.is ∙ plain_expression-Apply _ _) split (c.in_ok-push_all_variables-in-len1-up-as_slice.ensures {u = tt}) c.loop-rest.invariant.0, omega arith)
