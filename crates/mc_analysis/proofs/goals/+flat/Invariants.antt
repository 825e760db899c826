use Rattle.std.proofs.Common.{◌↔◌, map, drop}
use Rattle.mc_model.specs.Flat.{flats}
use Rattle.mc_model.specs.PlainGoals.{plain_flat}
use Rattle.mc_analysis.specs.code.Tests.{AllFitFlat}
use Rattle.mc_analysis.proofs.goals.+flat.Given as goal

abbrev pub invariant-all_fit_flat-loop-goal : goal.invariant-all_fit_flat-loop-goal
invariant-all_fit_flat-loop-goal l =
    AllFitFlat l.top l.program (flats (map plain_flat (drop l.goal-index l.goals)))
    ↔ AllFitFlat l.top l.program (flats (map plain_flat l.goals))
