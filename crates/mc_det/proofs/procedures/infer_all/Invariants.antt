use Rattle.std.proofs.Common.{◌≡◌, ℕ, ◌<◌, ◌≤◌, length, map, take, get_or}
use Rattle.mc_model.specs.declared.sched.Proc.{Proc}
use Rattle.mc_procs.specs.Procedures.{with_procs}
use Rattle.mc_det.specs.MarkedProcedures.{IsMarked}
use Rattle.mc_det.proofs.procedures.infer_all.Given as goal

abbrev pub invariant-loop-k : goal.invariant-loop-k
invariant-loop-k l =
    record {
      end : l.k-end ≡ length l.fn.procs.added;
      others : l.procs ≡ with_procs l.fn.procs l.procs.added;
      count : length l.procs.added ≡ length l.fn.procs.added;
      dets : map (λ (p : Proc). p.det) (take l.k l.procs.added) ≡ take l.k l.dets.items;
      each : (j : ℕ) (d : Proc) → j < l.k → IsMarked l.fn.procs l.dets.items (get_or l.fn.procs.added j d) (get_or l.procs.added j d);
      rest : (j : ℕ) (d : Proc) → l.k ≤ j → get_or l.procs.added j d ≡ get_or l.fn.procs.added j d;
    }
