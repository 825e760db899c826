use Rattle.std.proofs.Common.{◌≡◌, List, [], ◌∷◌, Option, Bool, true, false, refl, ap}
use Rattle.std.specs.Int.{int_wrap}
use Rattle.mc_program.specs.Values.{Val}
use Rattle.laws_language.proofs.examples.queens.Goals as goal

abbrev is_empty : List (List (Option Val)) → Bool
is_empty [] = true
is_empty (answer ∷ answers) = false

apart : false ≡ true → ⊥
apart e = cc

pub returns : goal.returns
unfolding int_wrap
returns c = ((refl, refl), (λ e. apart (ap is_empty e)))
