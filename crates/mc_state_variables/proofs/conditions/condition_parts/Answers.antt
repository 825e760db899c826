use Rattle.std.proofs.Common.{◌≡◌, List, length, map, ap, ap₂, sym, ◌∙◌, arith}
use Rattle.mc_term_data.specs.Plain.{plain_term, term_list}
use Rattle.mc_term_data.specs.Names.{count}
use Rattle.mc_term_data.specs.declared.term.Term.{Term}
use Rattle.mc_clause_syntax.specs.GoalForms.{goal_form}
use Rattle.mc_state_variables.proofs.ByParts.{two_items, short_is_whole, both_are_quantified}
use Rattle.mc_state_variables.proofs.conditions.condition_parts.Goals as goal

pub returns-in_default-as_slice-clause-same : goal.returns-in_default-as_slice-clause-same
returns-in_default-as_slice-clause-same c =
    let form = ap₂ goal_form (sym c.as_slice.ensures.items) (ap (λ (ts : List Term). count (term_list (map plain_term ts))) (sym c.as_slice-2.ensures.items) ∙ sym c.arity.ensures) ∙ sym c.in-Existential.ensures in
    short_is_whole c.args.condition.now c.in-App.name c.in-App.parts c.in-App.is form (omega (arith, ap length c.as_slice-in-Existential.ensures.items, c.in_default-as_slice.len_below))

pub returns-in-len2-up-clause-same : goal.returns-in-len2-up-clause-same
returns-in-len2-up-clause-same c =
    let form = ap₂ goal_form (sym c.as_slice.ensures.items) (ap (λ (ts : List Term). count (term_list (map plain_term ts))) (sym c.as_slice-2.ensures.items) ∙ sym c.arity.ensures) ∙ sym c.in-Existential.ensures in
    both_are_quantified c.args.condition.now c.in-App.name c.in-App.parts _ c.list-item.result c.goal-item.result c.in-App.is form
    (sym c.as_slice-in-Existential.ensures.items ∙ two_items _ c.list-item.result c.goal-item.result c.in-len2-up.len_at_least c.list-item.is c.goal-item.is)
