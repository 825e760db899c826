use Rattle.std.proofs.Common.{arith, length, ◌-◌, ◌∙◌, sym, ap, ◌&&◌}
use Rattle.mc_term_data.specs.Plain.{plain_term}
use Rattle.mc_clause_syntax.specs.Goals.{is_goal}
use Rattle.mc_clause_syntax.specs.declared.goal_form.GoalContext.TheVariants.{Whole}
use Rattle.mc_clause_syntax.proofs.Disjuncts.{are_disjuncts-front_last}
use Rattle.mc_clause_syntax.proofs.Shapes.{most_take, most_rest}
use Rattle.mc_clause_syntax.proofs.goal.+goals.Goals as goal

pub are_disjuncts-are_goals-requires : goal.are_disjuncts-are_goals-requires
are_disjuncts-are_goals-requires t c = let d = c.decreases in (omega (arith, most_take (length c.args.terms.now - 1) c.args.terms.now), tt)

pub have_form-are_goals-requires : goal.have_form-are_goals-requires
have_form-are_goals-requires t c = let d = c.decreases in (omega (arith, most_rest c.args.parts.now), tt)

pub have_form-are_goals-requires-then-is_quantified_list : goal.have_form-are_goals-requires-then-is_quantified_list
have_form-are_goals-requires-then-is_quantified_list t c = let d = c.decreases in (omega (arith, most_rest c.args.parts.now), tt)

pub are_disjuncts-returns-then-are_goals : goal.are_disjuncts-returns-then-are_goals
are_disjuncts-returns-then-are_goals t c =
    c.is_goal.ensures
    ∙ ap (λ b. b && is_goal Whole (plain_term c.last-item.result)) (sym c.if-are_goals.true ∙ c.are_goals.ensures)
    ∙ sym (are_disjuncts-front_last c.args.terms.now c.last-item.result c.in-len1-up.len_at_least c.last-item.is)

pub are_disjuncts-returns-else-are_goals : goal.are_disjuncts-returns-else-are_goals
are_disjuncts-returns-else-are_goals t c =
    c.if-are_goals.false
    ∙ ap (λ b. b && is_goal Whole (plain_term c.last-item.result)) (sym c.if-are_goals.false ∙ c.are_goals.ensures)
    ∙ sym (are_disjuncts-front_last c.args.terms.now c.last-item.result c.in-len1-up.len_at_least c.last-item.is)
