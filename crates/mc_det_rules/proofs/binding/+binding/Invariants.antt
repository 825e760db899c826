use Rattle.std.proofs.Common.{◌≡◌, ◌≤◌, length, drop, map}
use Rattle.std.specs.List.{list_any}
use Rattle.mc_model.specs.Scheduled.{nodes}
use Rattle.mc_model.specs.PlainGoals.{plain_node, plain_arm, arms_of}
use Rattle.mc_accepted.specs.Ordered.{variables_of_nodes, variables_of_arms}
use Rattle.mc_det_rules.specs.code.Calls.{binds}
use Rattle.mc_det_rules.proofs.binding.+binding.Given as goal

abbrev pub invariant-binds_in_one-loop-n : goal.invariant-binds_in_one-loop-n
invariant-binds_in_one-loop-n l = record {
  left : l.n ≤ length l.goals;
  found : l.found ≡ list_any (binds l.point l.changes) (variables_of_nodes (nodes (map plain_node (drop l.n l.goals))));
}

abbrev pub decreases-binds_in_one-loop-n : goal.decreases-binds_in_one-loop-n
decreases-binds_in_one-loop-n l = l.n

abbrev pub invariant-binds_in_arms-loop-n : goal.invariant-binds_in_arms-loop-n
invariant-binds_in_arms-loop-n l = record {
  left : l.n ≤ length l.arms;
  found : l.found ≡ list_any (binds l.point l.changes) (variables_of_arms (arms_of (map plain_arm (drop l.n l.arms))));
}

abbrev pub decreases-binds_in_arms-loop-n : goal.decreases-binds_in_arms-loop-n
decreases-binds_in_arms-loop-n l = l.n
