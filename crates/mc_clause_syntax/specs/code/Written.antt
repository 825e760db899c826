-- Terms written shortly, for computed examples.
use Rattle.std.specs.Prelude.{ℕ, List, [], ◌∷◌, codes}
use Rattle.mc_term_data.specs.Plain.{PlainTerm, PlainTerms, at, no_term, more_terms, App, Items, Conj, Disj}

abbrev pub over : List ℕ → PlainTerms → PlainTerm
over w ts = at (App (w ∷ []) ts) 1

abbrev pub just : PlainTerm → PlainTerms
just t = more_terms t no_term

abbrev pub two : PlainTerm → PlainTerm → PlainTerms
two t u = more_terms t (more_terms u no_term)

abbrev pub three : PlainTerm → PlainTerm → PlainTerm → PlainTerms
three t u v = more_terms t (more_terms u (more_terms v no_term))

abbrev pub atom : List ℕ → PlainTerm
atom w = over w no_term

abbrev pub sign : List ℕ → PlainTerm → PlainTerm → PlainTerm
sign w t u = over w (two t u)

abbrev pub conj : PlainTerms → PlainTerm
conj ts = at (Conj ts) 1

abbrev pub disj : PlainTerms → PlainTerm
disj ts = at (Disj ts) 1

abbrev pub quantify : (name : List ℕ) → PlainTerms → PlainTerm → PlainTerm
quantify w vs t = over w (two (at (Items vs) 1) t)

abbrev pub rule : PlainTerm → PlainTerm → PlainTerm
rule h b = sign (codes ":-") h b
