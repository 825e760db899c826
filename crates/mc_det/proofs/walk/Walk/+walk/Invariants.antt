use Rattle.std.proofs.Common.{◌≡◌, ◌++◌, map}
use Rattle.mc_model.specs.Scheduled.{nodes}
use Rattle.mc_model.specs.PlainGoals.{plain_node, plain_arm, arms_of}
use Rattle.mc_det.specs.Bodies.{constraint_all, constraint_any, constraint_arms}
use Rattle.mc_det.specs.code.Facts.{known_in}
use Rattle.mc_det.specs.code.Points.{insts_in, undone}
use Rattle.mc_det.specs.code.Walks.{typed, Ready, InSystems}
use Rattle.mc_det.proofs.Walking.{all_left, any_left, arms_left}
use Rattle.mc_det.proofs.walk.Walk.+walk.Given as goal

abbrev pub invariant-conj-loop-goal : goal.invariant-conj-loop-goal
invariant-conj-loop-goal l =
    record {
      ready : Ready l.procs l.types l.self.point;
      undone : undone l.found.items l.self.point ≡ l.fn.self.point;
      known : l.self.known.items ≡ l.fn.self.known.items;
      left : InSystems l.procs (λ S. l.self.steps.items ++ all_left S (typed l.types) (insts_in l.self.point) (known_in l.fn.self.known.items) l.goals l.goal-index ≡ l.fn.self.steps.items ++ constraint_all S (typed l.types) (insts_in l.fn.self.point) (known_in l.fn.self.known.items) (nodes (map plain_node l.goals)));
    }

abbrev pub invariant-disj-loop-goal : goal.invariant-disj-loop-goal
invariant-disj-loop-goal l =
    record {
      ready : Ready l.procs l.types l.self.point;
      point : l.self.point ≡ l.fn.self.point;
      known : l.self.known.items ≡ l.fn.self.known.items;
      left : InSystems l.procs (λ S. l.self.steps.items ++ any_left S (typed l.types) (insts_in l.fn.self.point) (known_in l.fn.self.known.items) l.goals l.goal-index ≡ l.fn.self.steps.items ++ constraint_any S (typed l.types) (insts_in l.fn.self.point) (known_in l.fn.self.known.items) (nodes (map plain_node l.goals)));
    }

abbrev pub invariant-arms-loop-arm : goal.invariant-arms-loop-arm
invariant-arms-loop-arm l =
    record {
      ready : Ready l.procs l.types l.self.point;
      point : l.self.point ≡ l.fn.self.point;
      known : l.self.known.items ≡ l.fn.self.known.items;
      left : InSystems l.procs (λ S. l.self.steps.items ++ arms_left S (typed l.types) (insts_in l.fn.self.point) (known_in l.fn.self.known.items) l.x l.arms l.arm-index ≡ l.fn.self.steps.items ++ constraint_arms S (typed l.types) (insts_in l.fn.self.point) (known_in l.fn.self.known.items) l.x (arms_of (map plain_arm l.arms)));
    }
