-- The parameters of a type, by its head, and the places of names among names (the Mercury manual: Types).
use Rattle.std.specs.Prelude.{ℕ, suc, List, [], ◌∷◌, Option, Some, None, if◌then◌else◌}
use Rattle.std.specs.Str.{bytes_eq}
use Rattle.mc_term_data.specs.Plain.{PlainTerm, PlainTerms, at, no_term, more_terms, App}
use Rattle.mc_term_data.specs.Shapes.{variable}

-- the place of a name among names, or that of their end
abbrev pub place_of : List ℕ → List (List ℕ) → ℕ
place_of x [] = 0
place_of x (y ∷ ys) = if bytes_eq x y then 0 else suc (place_of x ys)

-- the names of variables; what is no variable has the empty name
abbrev pub name_of : Option (List ℕ) → List ℕ
name_of None = []
name_of (Some x) = x

abbrev pub variable_names : PlainTerms → List (List ℕ)
variable_names no_term = []
variable_names (more_terms t ts) = name_of (variable t) ∷ variable_names ts

-- The parameters of a type, by its head, in order. Each `_` is one of its own, which no body can use.
abbrev pub parameters_of : PlainTerm → List (List ℕ)
parameters_of (at (App w ts) line) = variable_names ts
parameters_of _ = []
