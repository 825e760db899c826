use Rattle.std.proofs.Common.{◌↔◌, map, drop}
use Rattle.mc_model.specs.Scheduled.{nodes}
use Rattle.mc_model.specs.PlainGoals.{plain_node, plain_arm, arms_of}
use Rattle.mc_procs.specs.Named.{EachNamed, EachArmNamed}
use Rattle.mc_self_check.specs.code.Names.{bounds}
use Rattle.mc_self_check.proofs.named.+named.Given as goal

abbrev pub invariant-all_named-loop-goal : goal.invariant-all_named-loop-goal
invariant-all_named-loop-goal l =
    EachNamed (bounds l.counts) (nodes (map plain_node (drop l.goal-index l.goals)))
    ↔ EachNamed (bounds l.counts) (nodes (map plain_node l.goals))

abbrev pub invariant-switch_named-loop-arm : goal.invariant-switch_named-loop-arm
invariant-switch_named-loop-arm l =
    EachArmNamed (bounds l.counts) (arms_of (map plain_arm (drop l.arm-index l.arms)))
    ↔ EachArmNamed (bounds l.counts) (arms_of (map plain_arm l.arms))
