-- The procedures that came, with the determinisms that were inferred: they are the system that runs, where
-- determinisms are closed, each goal has the determinism of the table, and all fit.
use Rattle.std.proofs.Math.Path.{fun_ext}
use Rattle.std.proofs.Common.{◌≡◌, ℕ, zero, suc, ◌<◌, List, [], ◌∷◌, length, map, refl, sym, ap, subst}
use Rattle.mc_program.specs.Values.{Val}
use Rattle.mc_program.specs.declared.builtin.Builtin.{Builtin}
use Rattle.mc_model.specs.Good.{System}
use Rattle.mc_model.specs.Outcomes.{Outcome}
use Rattle.mc_model.specs.Scheduled.{Procedure}
use Rattle.mc_model.specs.declared.sched.Proc.{Proc}
use Rattle.mc_accepted.specs.Accepted.{entered, KeepsDeterminism}
use Rattle.mc_accepted.specs.BuiltinFits.{FitsBuiltins}
use Rattle.mc_accepted.specs.BuiltinTypes.{Library_types}
use Rattle.mc_accepted.specs.Determined.{nothing_known}
use Rattle.mc_accepted.specs.Fits.{Fits}
use Rattle.mc_accepted.specs.Inferred.{Closed, system_of}
use Rattle.mc_accepted.specs.IoFits.{FitsIo}
use Rattle.mc_procs.specs.Fitting.{AllFit}
use Rattle.mc_procs.specs.Procedures.{PlainProcs, as_system, parameters_of, procedure_at}
use Rattle.mc_procs.proofs.Fits.{system_fits}
use Rattle.mc_det_constraints.specs.Least.{assigned}
use Rattle.mc_det.specs.Determinisms.{AreDeterminisms, declared_procedure, declared_system}
use Rattle.mc_det.specs.MarkedProcedures.{MarksHold, determinisms_of}

-- the system of the procedures where each has its own determinism
abbrev pub determined_system : (Builtin → List Val → Outcome) → PlainProcs → System
determined_system outcome q = system_of (declared_system outcome q) (assigned (determinisms_of q))

pub closed : (outcome : Builtin → List Val → Outcome) (q : PlainProcs) → AreDeterminisms q (determinisms_of q) → Closed (declared_system outcome q) (assigned (determinisms_of q))
closed outcome q are = (are outcome).closed

determined_at : (ps : List Proc) (k : ℕ) → record ((declared_procedure ps k).procedure) { det = assigned (map (λ (p : Proc). p.det) ps) k } ≡ procedure_at ps k
determined_at [] k = refl
determined_at (p ∷ ps) zero = refl
determined_at (p ∷ ps) (suc k) = determined_at ps k

pub system_is_determined : (outcome : Builtin → List Val → Outcome) (q : PlainProcs) → determined_system outcome q ≡ as_system outcome q
system_is_determined outcome q =
    ap (λ (procs : ℕ → Procedure). record (as_system outcome q) { procs = procs }) (fun_ext (λ k. determined_at q.added k))

-- each goal keeps the determinism that the table gives it
abbrev pub Keeps : System → ℕ → Type 0
Keeps S k = KeepsDeterminism S (S.procs k) (entered (S.procs k).head (S.procs k).first) nothing_known (S.procs k).body

pub keeps_determinism : (outcome : Builtin → List Val → Outcome) (q : PlainProcs) → MarksHold q → (k : ℕ) → k < length q.added → Keeps (determined_system outcome q) k
keeps_determinism outcome q marks k lt = subst (λ S. Keeps S k) (sym (system_is_determined outcome q)) (marks outcome k lt)

pub determined_fits : (outcome : Builtin → List Val → Outcome) (q : PlainProcs) → AllFit q → FitsBuiltins (as_system outcome q).world → (K : Library_types) → FitsIo (as_system outcome q).world K → Fits (determined_system outcome q) (parameters_of q)
determined_fits outcome q fit builtins K io =
    subst (λ S. Fits S (parameters_of q)) (sym (system_is_determined outcome q)) (system_fits q fit outcome builtins (K, io))
