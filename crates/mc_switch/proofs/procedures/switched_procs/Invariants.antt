use Rattle.std.proofs.Common.{◌≡◌, ℕ, ◌<◌, length, get_or}
use Rattle.mc_model.specs.declared.sched.Proc.{Proc}
use Rattle.mc_switch.specs.Kept.{OnlyGrew}
use Rattle.mc_switch.specs.SwitchedBodies.{IsSwitched}
use Rattle.mc_switch.proofs.procedures.switched_procs.Given as goal

abbrev pub invariant-loop-k : goal.invariant-loop-k
invariant-loop-k l =
    record {
      count : length l.switched.items ≡ l.k;
      grew : OnlyGrew l.fn.procs l.procs;
      each : (j : ℕ) (d : Proc) → j < l.k → IsSwitched l.procs (get_or l.fn.procs.added j d) (get_or l.switched.items j d);
    }
