use Rattle.std.proofs.Common.{◌≡◌, length, map}
use Rattle.mc_model.specs.Scheduled.{nodes}
use Rattle.mc_model.specs.PlainGoals.{plain_node, plain_arm, arms_of}
use Rattle.mc_procs.specs.Procedures.{procedure_at}
use Rattle.mc_det.specs.code.Points.{insts_in, undone}
use Rattle.mc_det_rules.specs.code.Calls.{found_in_all, found_in_each, found_in_arms}
use Rattle.mc_det_rules.proofs.Calling.{all_left, each_left, arms_left}
use Rattle.mc_det_rules.proofs.calls.+calls.Given as goal

abbrev pub invariant-calls_of_all-loop-goal : goal.invariant-calls_of_all-loop-goal
invariant-calls_of_all-loop-goal l = record {
  many : length l.point ≡ length l.fn.point;
  undone : undone l.before.items l.point ≡ l.fn.point;
  left : all_left (procedure_at l.procs.added) l.goals (insts_in l.point) l.found l.goal-index ≡ found_in_all (procedure_at l.procs.added) (insts_in l.fn.point) (nodes (map plain_node l.goals));
}

abbrev pub invariant-calls_of_each-loop-goal : goal.invariant-calls_of_each-loop-goal
invariant-calls_of_each-loop-goal l = record {
  point : l.point ≡ l.fn.point;
  left : each_left (procedure_at l.procs.added) l.goals (insts_in l.fn.point) l.found l.goal-index ≡ found_in_each (procedure_at l.procs.added) (insts_in l.fn.point) (nodes (map plain_node l.goals));
}

abbrev pub invariant-calls_of_arms-loop-arm : goal.invariant-calls_of_arms-loop-arm
invariant-calls_of_arms-loop-arm l = record {
  point : l.point ≡ l.fn.point;
  left : arms_left (procedure_at l.procs.added) l.arms (insts_in l.fn.point) l.found l.arm-index ≡ found_in_arms (procedure_at l.procs.added) (insts_in l.fn.point) (arms_of (map plain_arm l.arms));
}
