use Rattle.std.proofs.Common.{◌+◌, ◌*◌}
use denote.Param.Weighed.{most}
use Rattle.mc_model.specs.declared.flat.Flat.{size-Flat}
use Rattle.mc_modes.proofs.sleeping.+sleeping.Given as goal

abbrev pub decreases-sleeps : goal.decreases-sleeps
decreases-sleeps l = 8 * size-Flat l.goal.now

abbrev pub decreases-first_sleeps : goal.decreases-first_sleeps
decreases-first_sleeps l = 8 * most size-Flat l.goals.now + 1

abbrev pub decreases-one_sleeps : goal.decreases-one_sleeps
decreases-one_sleeps l = 8 * most size-Flat l.goals.now + 2

abbrev pub decreases-sleeps_among : goal.decreases-sleeps_among
decreases-sleeps_among l = 8 * most size-Flat l.goals.now + 1

abbrev pub decreases-quantified_sleeps : goal.decreases-quantified_sleeps
decreases-quantified_sleeps l = 8 * size-Flat l.goal.now + 1

abbrev pub decreases-condition_sleeps : goal.decreases-condition_sleeps
decreases-condition_sleeps l = 8 * size-Flat l.condition.now + 1

abbrev pub invariant-one_sleeps-loop-place : goal.invariant-one_sleeps-loop-place
invariant-one_sleeps-loop-place l = Unit {0}
