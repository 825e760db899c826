-- Terms in which no state variable stands.
use Rattle.std.specs.Prelude.{Bool, true, not, ◌&&◌}
use Rattle.mc_term_data.specs.Plain.{PlainTerm, PlainTerms, at, no_term, more_terms, App, Items, Tailed, Conj, Disj}
use Rattle.mc_clause_syntax.specs.StateVariables.{is_state}

abbrev mutual
  pub stateless : PlainTerm → Bool
  stateless (at (App w ts) l) = not (is_state w ts) && all_stateless ts
  stateless (at (Items ts) l) = all_stateless ts
  stateless (at (Tailed ts t) l) = all_stateless ts && stateless t
  stateless (at (Conj ts) l) = all_stateless ts
  stateless (at (Disj ts) l) = all_stateless ts
  stateless _ = true

  pub all_stateless : PlainTerms → Bool
  all_stateless no_term = true
  all_stateless (more_terms t ts) = stateless t && all_stateless ts
