use Rattle.std.proofs.Common.{◌≡◌, ℕ, ◌≤◌, length, get_or, take}
use Rattle.mc_model.specs.declared.sched.GoalNode.{GoalNode}
use Rattle.mc_model.specs.declared.sched.Arm.{Arm}
use Rattle.mc_det.specs.code.Points.{undone}
use Rattle.mc_det.specs.code.Walks.{Ready}
use Rattle.mc_det.specs.code.Prunes.{Keeps}
use Rattle.mc_det.proofs.Counting.{More}
use Rattle.mc_det.proofs.Gathering.{of_goals}
use Rattle.mc_det.proofs.PrunedParts.{RunSoFar, TriedSoFar, ChosenSoFar}
use Rattle.mc_det.proofs.prune.Pruning.+prune.Given as goal

abbrev pub invariant-prune_conj-loop-n : goal.invariant-prune_conj-loop-n
invariant-prune_conj-loop-n l =
    record {
      end : l.n-end ≡ length l.fn.goals;
      count : length l.nodes.items ≡ length l.fn.goals;
      rest : (k : ℕ) (d : GoalNode) → l.n ≤ k → get_or l.nodes.items k d ≡ get_or l.fn.goals k d;
      ready : Ready l.procs l.types l.self.point;
      counts : length l.self.outside ≡ length l.types;
      undone : undone l.found.items l.self.point ≡ l.fn.self.point;
      more : More (of_goals l.fn.goals) l.fn.self.outside l.self.outside;
      so_far : RunSoFar l.procs l.types l.fn.self l.self l.fn.goals l.n (take l.n l.nodes.items) l.never_end;
    }

abbrev pub invariant-prune_disj-loop-n : goal.invariant-prune_disj-loop-n
invariant-prune_disj-loop-n l =
    record {
      end : l.n-end ≡ length l.fn.goals;
      count : length l.nodes.items ≡ length l.fn.goals;
      rest : (k : ℕ) (d : GoalNode) → l.n ≤ k → get_or l.nodes.items k d ≡ get_or l.fn.goals k d;
      keeps : Keeps l.fn.self l.self;
      so_far : TriedSoFar l.procs l.types l.fn.self l.fn.goals l.n (take l.n l.nodes.items) l.never_end;
    }

abbrev pub invariant-prune_arms-loop-n : goal.invariant-prune_arms-loop-n
invariant-prune_arms-loop-n l =
    record {
      end : l.n-end ≡ length l.fn.arms;
      count : length l.bodies.items ≡ length l.fn.arms;
      rest : (k : ℕ) (d : Arm) → l.n ≤ k → get_or l.bodies.items k d ≡ get_or l.fn.arms k d;
      keeps : Keeps l.fn.self l.self;
      so_far : ChosenSoFar l.procs l.types l.fn.self l.fn.arms l.n (take l.n l.bodies.items) l.never_end;
    }
