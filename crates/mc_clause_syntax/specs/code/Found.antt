-- What a walk over a clause has found of its variables.
use Rattle.std.specs.Prelude.{ℕ, ◌+◌, ◌-◌, ◌^◌, min, List, [], ◌∷◌, if◌then◌else◌}
use Rattle.mc_base.specs.NameSets.{put}
use Rattle.mc_clause_syntax.specs.declared.variables.Variables.{Variables}
use Rattle.mc_clause_syntax.specs.Limits.{is_anonymous}

-- with one more: one that has no name is counted, up to the greatest count that fits
abbrev pub with_variable : Variables → List ℕ → Variables
with_variable v x =
    if is_anonymous x then record v { anonymous = min (v.anonymous + 1) (2 ^ 32 - 1) }
    else record v { names = put v.names x }

abbrev pub with_variables : Variables → List (List ℕ) → Variables
with_variables v [] = v
with_variables v (x ∷ xs) = with_variables (with_variable v x) xs
