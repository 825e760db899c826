-- What a step of a walk over terms leaves to the rest of them.
use Rattle.std.specs.Prelude.{ℕ, ◌&&◌, List, ◌++◌, Option, Some, None, if◌then◌else◌}
use Rattle.std.specs.Option.{option_map}
use Rattle.mc_term_data.specs.Plain.{PlainTerms}
use Rattle.mc_decl_syntax.specs.Terms.{are_variables, names_in, is_distinct, paths}
use Rattle.mc_decl_syntax.specs.Plain.{Path}

-- the parameters, where these names came before these terms
abbrev pub parameters_with : List (List ℕ) → PlainTerms → Option (List (List ℕ))
parameters_with names ts =
    if are_variables ts && is_distinct (names ++ names_in ts) then Some (names ++ names_in ts)
    else None

-- these names, and those that the terms are
abbrev pub paths_with : List Path → PlainTerms → Option (List Path)
paths_with names ts = option_map (λ more. names ++ more) (paths ts)
