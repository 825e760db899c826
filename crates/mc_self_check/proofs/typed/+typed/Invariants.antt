use Rattle.std.proofs.Common.{◌↔◌, ◌+◌, ◌*◌, map, drop}
use denote.Param.Weighed.{most}
use Rattle.mc_program.specs.PlainPrograms.{plain_program}
use Rattle.mc_model.specs.declared.flat.Flat.{size-Flat}
use Rattle.mc_model.specs.Flat.{flats}
use Rattle.mc_model.specs.PlainGoals.{plain_flat}
use Rattle.mc_accepted.specs.Typing.{TypedGoals}
use Rattle.mc_procs.specs.VariableTypes.{type_in}
use Rattle.mc_self_check.proofs.typed.+typed.Given as goal

abbrev pub decreases-is_typed : goal.decreases-is_typed
decreases-is_typed l = 2 * size-Flat l.goal.now

abbrev pub decreases-all_typed : goal.decreases-all_typed
decreases-all_typed l = 2 * most size-Flat l.goals.now + 1

abbrev pub invariant-all_typed-loop-goal : goal.invariant-all_typed-loop-goal
invariant-all_typed-loop-goal l =
    TypedGoals (plain_program l.program) (type_in l.types) (flats (map plain_flat (drop l.goal-index l.goals)))
    ↔ TypedGoals (plain_program l.program) (type_in l.types) (flats (map plain_flat l.goals))
