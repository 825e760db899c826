use Rattle.std.proofs.Common.{◌≡◌, ◌∙◌, List, map, ap, ap₂, sym}
use Rattle.mc_term_data.specs.Plain.{plain_term, term_list}
use Rattle.mc_term_data.specs.Names.{count}
use Rattle.mc_term_data.specs.declared.term.Term.{Term}
use Rattle.mc_clause_syntax.specs.declared.goal_form.GoalForm.{GoalForm}
use Rattle.mc_clause_syntax.specs.GoalForms.{goal_form}
use Rattle.mc_clauses.specs.Unresolved.{goal_of, goal_by}
use Rattle.mc_clauses.specs.code.Views.{goals_at}
use Rattle.mc_clauses.proofs.Views.{plain_term-app}
use Rattle.mc_clauses.proofs.view.view.Goals as goal

pub returns-in-App-clause-is : goal.returns-in-App-clause-is
returns-in-App-clause-is c l own =
    let w = c.in-App.name in
    let parts = c.in-App.parts in
    let form : c.of-form.result ≡ goal_form w (count (term_list (map plain_term parts))) =
    c.of-form.ensures ∙ ap₂ goal_form c.as_slice-in-App.ensures.items (c.arity.ensures ∙ ap (λ (ps : List Term). count (term_list (map plain_term ps))) c.as_slice-in-App-2.ensures.items) in
    ap (goal_of l own) (plain_term-app c.args.goal.now w parts c.in-App.is)
    ∙ ap (λ (f : GoalForm). goal_by l own f w (term_list (map plain_term parts)) (goals_at l own parts)) (sym form)
    ∙ c.view_by.ensures.is l own
