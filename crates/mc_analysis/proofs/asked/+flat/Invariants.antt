use Rattle.std.proofs.Common.{◌↔◌, map, drop}
use Rattle.mc_model.specs.Flat.{flats}
use Rattle.mc_model.specs.PlainGoals.{plain_flat}
use Rattle.mc_analysis.specs.code.Asked.{AllCallMarked}
use Rattle.mc_analysis.proofs.asked.+flat.Given as goal

abbrev pub invariant-all_call_tidy-loop-goal : goal.invariant-all_call_tidy-loop-goal
invariant-all_call_tidy-loop-goal l =
    AllCallMarked l.tidy (flats (map plain_flat (drop l.goal-index l.goals)))
    ↔ AllCallMarked l.tidy (flats (map plain_flat l.goals))
