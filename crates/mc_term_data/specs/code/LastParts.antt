-- The last part of a term, along which the walks of this crate go by loops.
use Rattle.std.specs.Prelude.{Option, Some, None}
use Rattle.mc_term_data.specs.Plain.{PlainTerm, PlainNode, PlainTerms, at, no_term, more_terms, Var, Int, Str, App, Items, Tailed, Conj, Disj}

-- the last of a term and those behind it
abbrev pub last_from : PlainTerm → PlainTerms → PlainTerm
last_from t no_term = t
last_from t (more_terms u us) = last_from u us

abbrev pub last_term : PlainTerms → Option PlainTerm
last_term no_term = None
last_term (more_terms t ts) = Some (last_from t ts)

abbrev pub last_of_node : PlainNode → Option PlainTerm
last_of_node (Var w) = None
last_of_node (Int n) = None
last_of_node (Str s) = None
last_of_node (App w ts) = last_term ts
last_of_node (Items ts) = last_term ts
last_of_node (Tailed ts t) = Some t
last_of_node (Conj ts) = last_term ts
last_of_node (Disj ts) = last_term ts

-- The last part of a term, where it has parts: what follows a list's bar, else the last of its
-- terms.
abbrev pub last_part : PlainTerm → Option PlainTerm
last_part (at n l) = last_of_node n
