use Rattle.std.proofs.Common.{◌∙◌, List, map, ap, sym}
use Rattle.mc_term_data.specs.Plain.{plain_term, term_list}
use Rattle.mc_term_data.specs.declared.term.Term.{Term}
use Rattle.mc_clauses.specs.code.Views.{goal_over, goals_at}
use Rattle.mc_clauses.proofs.Forms.{other_form}
use Rattle.mc_clauses.proofs.view.view_by.Goals as goal

pub returns-in_default-clause-is : goal.returns-in_default-clause-is
returns-in_default-clause-is c l own =
    other_form l own c.args.form c.args.name.now c.args.parts.now
    c.in_default.not-Fail c.in_default.not-Conjunction c.in_default.not-Disjunction c.in_default.not-Call
    ∙ ap (λ (ps : List Term). goal_over l own c.args.form (term_list (map plain_term ps)) (goals_at l own ps)) (sym c.as_slice-in_default.ensures.items)
    ∙ c.view_over.ensures.is l own
