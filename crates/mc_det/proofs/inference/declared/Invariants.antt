use Rattle.std.proofs.Common.{◌≡◌, map, take}
use Rattle.mc_model.specs.declared.sched.Proc.{Proc}
use Rattle.mc_det.proofs.inference.declared.Given as goal

abbrev pub invariant-loop-k : goal.invariant-loop-k
invariant-loop-k l = l.declared.items ≡ map (λ (p : Proc). p.declared) (take l.k l.procs.added)
