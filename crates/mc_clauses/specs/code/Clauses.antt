-- The terms of a head, as their walk makes them.
use Rattle.mc_term_data.specs.Plain.{plain_term}
use Rattle.mc_term_data.specs.declared.term.Term.{Term}
use Rattle.mc_accepted.specs.Resolving.{Unresolved_terms}
use Rattle.mc_names.specs.Linked.{plain_names}
use Rattle.mc_clauses.specs.Unresolved.{Walk, in_turn, terms_of, head_terms}
use Rattle.mc_clauses.specs.declared.terms.Module.{Module}

abbrev pub head_walk : Module → Term → Walk Unresolved_terms
head_walk at t = in_turn (terms_of (plain_names at.names.now) at.own (head_terms (plain_term t)))
