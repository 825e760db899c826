use Rattle.std.proofs.Common.{length}
use Rattle.mc_procs.specs.Procedures.{source_of}
use Rattle.mc_det.specs.Determinisms.{declared_procedure}
use Rattle.mc_det_rules.specs.code.Entry.{main_by}
use Rattle.mc_det_rules.proofs.Entering.{IsAhead}
use Rattle.mc_det_rules.proofs.entry.main_procedure.Given as goal

abbrev pub invariant-loop-k : goal.invariant-loop-k
invariant-loop-k l = IsAhead (λ k. main_by (source_of l.procs).preds (declared_procedure l.procs.added k)) (length l.procs.added) l.k
