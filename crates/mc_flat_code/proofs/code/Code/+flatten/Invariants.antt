use Rattle.std.proofs.Common.{◌≡◌, ◌<◌, List, ◌++◌, map, take, length}
use Rattle.mc_model.specs.PlainGoals.{plain_node, plain_arm, arms_of}
use Rattle.mc_model.specs.Scheduled.{nodes}
use Rattle.mc_model.specs.declared.sched.GoalNode.{GoalNode}
use Rattle.mc_flat_code.specs.Running.{IsCode, EachBelow}
use Rattle.mc_flat_code.specs.Standing.{StandsAll, StandsEach, StandsArms}
use Rattle.mc_flat_code.specs.Mentions.{AnyMentions, ArmsMention}
use Rattle.mc_flat_code.specs.code.Building.{Grows}
use Rattle.mc_flat_code.specs.code.Mentioning.{Brings}
use Rattle.mc_flat_code.proofs.code.Code.+flatten.Given as goal

abbrev pub invariant-conjunction-loop-rest : goal.invariant-conjunction-loop-rest
invariant-conjunction-loop-rest l =
    record {
      grows : Grows l.fn.self l.self;
      is_code : IsCode l.self;
      within : l.place < length l.self.instrs.items;
      stands :
          (done : List GoalNode)
          × ((l.fn.goals ≡ l.rest ++ done)
          × StandsAll l.self (nodes (map plain_node done)) l.fn.next l.place);
      brings : Brings l.fn.self l.self (AnyMentions (nodes (map plain_node l.fn.goals)));
    }

abbrev pub decreases-conjunction-loop-rest : goal.decreases-conjunction-loop-rest
decreases-conjunction-loop-rest l = length l.rest

abbrev pub invariant-disjunction-loop-goal : goal.invariant-disjunction-loop-goal
invariant-disjunction-loop-goal l =
    record {
      grows : Grows l.fn.self l.self;
      is_code : IsCode l.self;
      below : EachBelow (length l.self.instrs.items) l.places.items;
      stands :
          StandsEach l.self (nodes (map plain_node (take l.goal-index l.goals))) l.next l.places.items;
      brings : Brings l.fn.self l.self (AnyMentions (nodes (map plain_node l.goals)));
    }

abbrev pub invariant-switch-loop-arm : goal.invariant-switch-loop-arm
invariant-switch-loop-arm l =
    record {
      grows : Grows l.fn.self l.self;
      is_code : IsCode l.self;
      below : EachBelow (length l.self.instrs.items) l.places.items;
      count : length l.places.items ≡ l.arm-index;
      stands :
          StandsArms l.self (arms_of (map plain_arm (take l.arm-index l.arms))) l.next l.places.items;
      brings : Brings l.fn.self l.self (ArmsMention (arms_of (map plain_arm l.arms)));
    }
