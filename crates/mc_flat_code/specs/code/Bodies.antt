-- Bodies that stand for procedures in order.
use Rattle.std.specs.Prelude.{List, [], ◌∷◌}
use Rattle.mc_model.specs.Scheduled.{Procedure}
use Rattle.mc_flat_code.specs.Standing.{StandsFor}
use Rattle.mc_flat_code.specs.declared.code.Code.{Code}
use Rattle.mc_flat_code.specs.declared.code.Body.{Body}

abbrev pub EachStands : Code → List Body → List Procedure → Type 0
EachStands code [] [] = Unit {0}
EachStands code (b ∷ bs) (p ∷ ps) = StandsFor code b p × EachStands code bs ps
EachStands code _ _ = ⊥
