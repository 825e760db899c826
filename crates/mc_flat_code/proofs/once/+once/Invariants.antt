use Rattle.std.proofs.Common.{map, take}
use Rattle.mc_model.specs.Scheduled.{nodes}
use Rattle.mc_model.specs.PlainGoals.{plain_node}
use Rattle.mc_flat_code.specs.code.Answering.{AllOnce}
use Rattle.mc_flat_code.proofs.once.+once.Given as goal

abbrev pub invariant-all_answer_once-loop-goal : goal.invariant-all_answer_once-loop-goal
invariant-all_answer_once-loop-goal l =
    AllOnce (nodes (map plain_node (take l.goal-index l.goals)))
