use Rattle.std.proofs.Common.{◌≡◌, ℕ, ◌≤◌, length, get_or, map, take}
use Rattle.mc_model.specs.Scheduled.{nodes}
use Rattle.mc_model.specs.PlainGoals.{plain_node, plain_arm, arms_of}
use Rattle.mc_model.specs.declared.sched.GoalNode.{GoalNode}
use Rattle.mc_model.specs.declared.sched.Arm.{Arm}
use Rattle.mc_det.specs.Marked.{marked_all, marked_each, marked_arms}
use Rattle.mc_det.specs.code.Facts.{known_in}
use Rattle.mc_det.specs.code.Marks.{under}
use Rattle.mc_det.specs.code.Points.{insts_in, undone}
use Rattle.mc_det.specs.code.Walks.{typed, Ready, InSystems}
use Rattle.mc_det.proofs.MarkedParts.{arms_before, all_to_come, each_to_come, arms_to_come}
use Rattle.mc_det.proofs.Telling.{before}
use Rattle.mc_det.proofs.walk.Walk.+mark.Given as goal

abbrev pub invariant-mark_conj-loop-n : goal.invariant-mark_conj-loop-n
invariant-mark_conj-loop-n l =
    record {
      end : l.n-end ≡ length l.fn.goals;
      count : length l.nodes.items ≡ length l.fn.goals;
      rest : (k : ℕ) (d : GoalNode) → l.n ≤ k → get_or l.nodes.items k d ≡ get_or l.fn.goals k d;
      ready : Ready l.procs l.types l.self.point;
      undone : undone l.found.items l.self.point ≡ l.fn.self.point;
      known : l.self.known.items ≡ l.fn.self.known.items;
      left : InSystems l.procs (λ S. before (map plain_node (take l.n l.nodes.items)) (all_to_come (under l.dets S) (typed l.types) (insts_in l.self.point) (known_in l.fn.self.known.items) l.fn.goals l.n) ≡ marked_all (under l.dets S) (typed l.types) (insts_in l.fn.self.point) (known_in l.fn.self.known.items) (nodes (map plain_node l.fn.goals)));
    }

abbrev pub invariant-mark_disj-loop-n : goal.invariant-mark_disj-loop-n
invariant-mark_disj-loop-n l =
    record {
      end : l.n-end ≡ length l.fn.goals;
      count : length l.nodes.items ≡ length l.fn.goals;
      rest : (k : ℕ) (d : GoalNode) → l.n ≤ k → get_or l.nodes.items k d ≡ get_or l.fn.goals k d;
      ready : Ready l.procs l.types l.self.point;
      point : l.self.point ≡ l.fn.self.point;
      known : l.self.known.items ≡ l.fn.self.known.items;
      left : InSystems l.procs (λ S. before (map plain_node (take l.n l.nodes.items)) (each_to_come (under l.dets S) (typed l.types) (insts_in l.fn.self.point) (known_in l.fn.self.known.items) l.fn.goals l.n) ≡ marked_each (under l.dets S) (typed l.types) (insts_in l.fn.self.point) (known_in l.fn.self.known.items) (nodes (map plain_node l.fn.goals)));
    }

abbrev pub invariant-mark_arms-loop-n : goal.invariant-mark_arms-loop-n
invariant-mark_arms-loop-n l =
    record {
      end : l.n-end ≡ length l.fn.arms;
      count : length l.bodies.items ≡ length l.fn.arms;
      rest : (k : ℕ) (d : Arm) → l.n ≤ k → get_or l.bodies.items k d ≡ get_or l.fn.arms k d;
      ready : Ready l.procs l.types l.self.point;
      point : l.self.point ≡ l.fn.self.point;
      known : l.self.known.items ≡ l.fn.self.known.items;
      left : InSystems l.procs (λ S. arms_before (map plain_arm (take l.n l.bodies.items)) (arms_to_come (under l.dets S) (typed l.types) (insts_in l.fn.self.point) (known_in l.fn.self.known.items) l.x l.fn.arms l.n) ≡ marked_arms (under l.dets S) (typed l.types) (insts_in l.fn.self.point) (known_in l.fn.self.known.items) l.x (arms_of (map plain_arm l.fn.arms)));
    }
