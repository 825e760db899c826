use Rattle.std.proofs.Common.{length, map, take, drop}
use Rattle.mc_model.specs.Flat.{flats, variables_of_all}
use Rattle.mc_model.specs.PlainGoals.{plain_flat}
use Rattle.mc_procs.specs.Named.{NumbersBelow}
use Rattle.mc_modes.specs.code.Frames.{Entered}
use Rattle.mc_modes.proofs.outside.enter_goals.Given as goal

abbrev pub invariant-loop-goal : goal.invariant-loop-goal
invariant-loop-goal l =
    record {
      entered : Entered (variables_of_all (flats (map plain_flat (take l.goal-index l.goals)))) l.fn.state l.state;
      below : NumbersBelow (length l.state.outside.items) (variables_of_all (flats (map plain_flat (drop l.goal-index l.goals))));
    }
