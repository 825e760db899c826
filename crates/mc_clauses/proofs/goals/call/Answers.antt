use Rattle.std.proofs.Common.{◌∙◌, map, ap, sym}
use Rattle.mc_term_data.specs.Plain.{plain_term, term_list}
use Rattle.mc_term_data.specs.Names.{count}
use Rattle.mc_accepted.specs.Resolving.{atom}
use Rattle.mc_names.specs.Linked.{plain_names}
use Rattle.mc_unresolved.specs.declared.goal.UnresolvedGoal.{Atom}
use Rattle.mc_unresolved.proofs.Views.{plain-Atom}
use Rattle.mc_unresolved.specs.Unresolved.{plain_unresolved, plain_unresolved_goal, unresolved_terms}
use Rattle.mc_clauses.specs.Unresolved.{meanings}
use Rattle.mc_clauses.specs.code.Walking.{terms_walk}
use Rattle.mc_clauses.proofs.Taking.{count-terms}
use Rattle.mc_clauses.proofs.Walks.{walked-on}
use Rattle.mc_clauses.proofs.goals.call.Goals as goal

pub returns : goal.returns
returns c =
    let names = plain_names c.args.at.now.names.now in
    let own = c.args.at.now.own in
    let args = c.args.args.now in
    let row = c.in_ok-made.made in
    walked-on (λ row. unresolved_terms (map plain_unresolved row)) plain_unresolved_goal
    (atom (meanings names own c.args.name.now (count (term_list (map plain_term args))))) (terms_walk c.args.at.now args)
    c.args.variables.now c.terms.new.variables row (Atom c.in_ok-candidates.candidates row)
    (rw (← c.as_slice.ensures.items) c.in_ok-made.ensures)
    (plain-Atom c.in_ok-candidates.candidates row ∙ ap (λ cs. atom cs (unresolved_terms (map plain_unresolved row)))
    (c.in_ok-candidates.ensures ∙ ap (meanings names own c.args.name.now) (c.len.ensures ∙ sym (count-terms args))))
