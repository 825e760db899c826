-- What a switch does next, by the value of its variable.
use Rattle.std.specs.Prelude.{ℕ, List, [], ◌∷◌, Option, Some, None}
use Rattle.mc_program.specs.Values.{Val}
use Rattle.mc_flat_code.specs.Running.{fitting}
use Rattle.mc_flat_code.specs.declared.code.Branch.{Branch}
use Rattle.mc_flat_code.specs.declared.code.Code.{Code}
use Rattle.mc_plain.specs.code.Machine.{NextAction, at, failing}

-- the one place, or the other one where there are several
abbrev pub only_of : ℕ → List ℕ → NextAction
only_of other [] = failing
only_of other (p ∷ []) = at p
only_of other (p ∷ r ∷ ps) = at other

abbrev pub case_now : Code → ℕ → List Branch → Option Val → NextAction
case_now code other bs None = at other
case_now code other bs (Some w) = only_of other (fitting code w bs)

-- the branch that fits, if one does
abbrev pub listed_place : Option ℕ → List ℕ
listed_place None = []
listed_place (Some p) = p ∷ []
