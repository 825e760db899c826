use Rattle.std.proofs.Common.{◌≡◌, ◌≤◌, length, drop, map}
use Rattle.mc_model.specs.Scheduled.{nodes}
use Rattle.mc_model.specs.PlainGoals.{plain_node, plain_arm, arms_of}
use Rattle.mc_det_rules.specs.code.Io.{InSystems, none_fail, found_in_all, found_in_each, found_in_arms}
use Rattle.mc_det_rules.proofs.io.+io.Given as goal

abbrev pub invariant-io_of_all-loop-n : goal.invariant-io_of_all-loop-n
invariant-io_of_all-loop-n l = record {
  left : l.n ≤ length l.goals;
  sure : l.is_sure ≡ none_fail (nodes (map plain_node (drop l.n l.goals)));
  found : InSystems l.procs (λ S type. l.found ≡ found_in_all S type l.is_first (nodes (map plain_node (drop l.n l.goals))));
}

abbrev pub decreases-io_of_all-loop-n : goal.decreases-io_of_all-loop-n
decreases-io_of_all-loop-n l = l.n

abbrev pub invariant-io_of_disjunction-loop-n : goal.invariant-io_of_disjunction-loop-n
invariant-io_of_disjunction-loop-n l = record {
  left : l.n ≤ length l.goals;
  sure : l.is_sure ≡ none_fail (nodes (map plain_node (drop l.n l.goals)));
  found : InSystems l.procs (λ S type. l.found ≡ found_in_each S type l.is_first (nodes (map plain_node (drop l.n l.goals))));
}

abbrev pub decreases-io_of_disjunction-loop-n : goal.decreases-io_of_disjunction-loop-n
decreases-io_of_disjunction-loop-n l = l.n

abbrev pub invariant-io_of_arms-loop-n : goal.invariant-io_of_arms-loop-n
invariant-io_of_arms-loop-n l = record {
  left : l.n ≤ length l.arms;
  found : InSystems l.procs (λ S type. l.found ≡ found_in_arms S type l.is_first (arms_of (map plain_arm (drop l.n l.arms))));
}

abbrev pub decreases-io_of_arms-loop-n : goal.decreases-io_of_arms-loop-n
decreases-io_of_arms-loop-n l = l.n
