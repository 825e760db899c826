use Rattle.std.proofs.Common.{map, take}
use Rattle.mc_model.specs.Scheduled.{nodes}
use Rattle.mc_model.specs.PlainGoals.{plain_label, plain_node, plain_arm, arms_of}
use Rattle.mc_flat_code.specs.Standing.{EachOpens, EachArmOpens}
use Rattle.mc_flat_code.proofs.opening.+opening.Given as goal

abbrev pub invariant-alternatives_open-loop-goal : goal.invariant-alternatives_open-loop-goal
invariant-alternatives_open-loop-goal l =
    EachOpens (plain_label l.on) l.variable (nodes (map plain_node (take l.goal-index l.goals)))

abbrev pub invariant-arms_open-loop-arm : goal.invariant-arms_open-loop-arm
invariant-arms_open-loop-arm l =
    EachArmOpens (plain_label l.on) l.variable (arms_of (map plain_arm (take l.arm-index l.arms)))
