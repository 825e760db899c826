use Rattle.std.proofs.Common.{◌≡◌, ℕ, ◌<◌, ◌≤◌, length, get_or}
use Rattle.mc_model.specs.declared.sched.Proc.{Proc}
use Rattle.mc_procs.specs.Procedures.{with_procs}
use Rattle.mc_det.specs.PrunedProcedures.{IsPruned}
use Rattle.mc_det.proofs.PrunedElsewhere.{AlikeDeclared}
use Rattle.mc_det.proofs.pruned.prune_all.Given as goal

abbrev pub invariant-loop-k : goal.invariant-loop-k
invariant-loop-k l =
    record {
      end : l.k-end ≡ length l.fn.procs.added;
      others : l.procs ≡ with_procs l.fn.procs l.procs.added;
      count : length l.procs.added ≡ length l.fn.procs.added;
      declared : AlikeDeclared l.fn.procs.added l.procs.added;
      each : (j : ℕ) (d : Proc) → j < l.k → IsPruned l.fn.procs (get_or l.fn.procs.added j d) (get_or l.procs.added j d);
      rest : (j : ℕ) (d : Proc) → l.k ≤ j → get_or l.procs.added j d ≡ get_or l.fn.procs.added j d;
    }
