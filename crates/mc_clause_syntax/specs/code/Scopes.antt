-- The scopes that stand around a goal, outermost first.
use Rattle.std.specs.Prelude.{ℕ, List, [], ◌∷◌, ◌++◌}

-- the names in all of these
abbrev pub all_names : List (List (List ℕ)) → List (List ℕ)
all_names [] = []
all_names (names ∷ more) = names ++ all_names more
