-- Which occurrences of the example have variables of their own.
use Rattle.std.proofs.Common.{◌≡◌, Bool, true, false, List, ◌∷◌, refl, ap}
use Rattle.laws_types.specs.code.ExamplesOfFlags.{MadeVariables}

abbrev second_of : List Bool → Bool
second_of (b ∷ c ∷ bs) = c
second_of _ = true

apart : false ≡ true → ⊥
apart e = cc

pub made_variables : MadeVariables
made_variables = (refl, refl, λ e. apart (ap second_of e))
