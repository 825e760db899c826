-- State variables in scope as plain data, without references.
use Rattle.std.specs.Prelude.{List, [], ◌∷◌, ◌++◌, map, Option, Some, None}
use Rattle.mc_term_data.specs.Plain.{PlainTerm, PlainTerms, no_term, more_terms}
use Rattle.mc_state_variables.specs.declared.held.Held.{Held}
use Rattle.mc_state_variables.specs.Versions as V

abbrev pub plain_held : Held → V.Held
plain_held h = record { name = h.name.now; before = h.before; after = h.after }

abbrev pub plain_helds : List Held → List V.Held
plain_helds hs = map plain_held hs

-- terms as a list
abbrev pub listed : PlainTerms → List PlainTerm
listed no_term = []
listed (more_terms t ts) = t ∷ listed ts

-- the term that there may be, as a list
abbrev pub maybe_one : Option PlainTerm → List PlainTerm
maybe_one None = []
maybe_one (Some t) = t ∷ []
