-- A procedure without a fault meets what is asked of its determinism.
use Rattle.std.proofs.Common.{◌≡◌, ℕ, Option, Some, None, Bool, true, false, if◌then◌else◌, refl, sym, subst}
use Rattle.std.specs.Option.{option_or}
use Rattle.mc_source.specs.Determinism.{Determinism, row_of, Allows}
use Rattle.mc_source.specs.Rules.{Fault}
use Rattle.mc_source.specs.declared.rule.Rule.TheVariants as R
use Rattle.std.specs.Prelude.{codes}
use Rattle.mc_source.specs.declared.det.Det.{Det}
use Rattle.mc_model.specs.Good.{System}
use Rattle.mc_model.specs.Scheduled.{Procedure}
use Rattle.mc_accepted.specs.Determined.{nothing_known}
use Rattle.mc_accepted.specs.Fits.{type_of}
use Rattle.mc_accepted.specs.Accepted.{entered}
use Rattle.mc_accepted.specs.Inferred.{system_of, body_determinism}
use Rattle.mc_accepted.specs.DeterminismFaults.{allows, not_allowed, both_named, undeclared, shown_procedure, call_fault, misplaced_call, io_fault, misplaces_io}
use Rattle.laws_accepted.specs.FaultLaws.{FaultlessMeets}
use Rattle.laws_language.proofs.Monotone.{to_allows}
use Rattle.laws_accepted.proofs.Placing.{misplaced_tells, misplaces_io_tells}

both_none : (o u : Option Fault) → option_or o u ≡ None → (o ≡ None) × (u ≡ None)
both_none None u e = (refl, e)
both_none (Some f) u e = cc

passed : (t : Bool) (f : Fault) → (if t then None else Some f) ≡ None → t ≡ true
passed true f e = refl
passed false f e = cc

allowed_where : (d : Det) (i : Determinism) → not_allowed (Some d) i ≡ None → Allows (row_of d) i
allowed_where d i e = to_allows (row_of d) i (passed (allows (row_of d) i) (R.E1, both_named d i) e)

no_call : (S : System) (o : Option ℕ) → call_fault S o ≡ None → o ≡ None
no_call S None e = refl
no_call S (Some k) e = cc

no_io : (t : Bool) (f : Fault) → (if t then Some f else None) ≡ None → t ≡ false
no_io true f e = cc
no_io false f e = refl

pub faultless_meets : FaultlessMeets
faultless_meets D ds k closed b e =
    let S : System = system_of D ds in
    let p : Procedure = S.procs k in
    let i = both_none (not_allowed (D.procs k).declared (body_determinism S p)) (option_or (undeclared (D.procs k).exported (D.procs k).declared (shown_procedure S p)) (option_or (call_fault S (misplaced_call S p)) (io_fault S p))) e in
    let j = both_none (undeclared (D.procs k).exported (D.procs k).declared (shown_procedure S p)) (option_or (call_fault S (misplaced_call S p)) (io_fault S p)) i.1 in
    let l = both_none (call_fault S (misplaced_call S p)) (io_fault S p) j.1 in
    record {
      allowed = by_declared (D.procs k).declared refl i.0;
      placed = (misplaced_tells S (type_of S p) (entered p.head p.first) nothing_known p.det.committed p.body).0 (no_call S (misplaced_call S p) l.0);
      io = (misplaces_io_tells S (type_of S p) (entered p.head p.first) nothing_known p.det.committed p.body).0 (no_io (misplaces_io S (type_of S p) (entered p.head p.first) nothing_known p.det.committed p.body) (R.U1, codes "io goal is misplaced") l.1);
    }
  where
    by_declared : (o : Option Det) → (D.procs k).declared ≡ o → not_allowed o (body_determinism (system_of D ds) ((system_of D ds).procs k)) ≡ None → Allows (row_of (ds k)) (body_determinism (system_of D ds) ((system_of D ds).procs k))
    by_declared None q e = closed.allows k b q
    by_declared (Some d) q e =
        subst (λ (x : Det). Allows (row_of x) (body_determinism (system_of D ds) ((system_of D ds).procs k))) (sym (closed.declared k d b q))
        (allowed_where d (body_determinism (system_of D ds) ((system_of D ds).procs k)) e)
