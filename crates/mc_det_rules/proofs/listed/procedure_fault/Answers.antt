use Rattle.std.proofs.Common.{Some, sym, ◌∙◌}
use Rattle.std.specs.Option.{option_or}
use Rattle.mc_accepted.specs.DeterminismFaults.{not_allowed, undeclared, shown_procedure, misplaced_call, call_fault, io_fault}
use Rattle.mc_accepted.specs.Inferred.{body_determinism}
use Rattle.mc_procs.specs.Procedures.{as_system, procedure_at}
use Rattle.mc_det.specs.Determinisms.{declared_procedure}
use Rattle.mc_det.proofs.Declaring.{if_ok_as}
use Rattle.mc_det_rules.proofs.Bridging.{first_one, next_one}
use Rattle.mc_det_rules.proofs.listed.procedure_fault.Goals as goal

pub returns-in-Some-2 : goal.returns-in-Some-2
returns-in-Some-2 c outcome =
    let q = c.args.procs.now in
    let S = as_system outcome q in
    let d = declared_procedure q.added c.args.k in
    let p = procedure_at q.added c.args.k in
    next_one (Some c.in-Some-2.fault) (not_allowed d.declared (body_determinism S p))
    (option_or (undeclared d.exported d.declared (shown_procedure S p)) (option_or (call_fault S (misplaced_call S p)) (io_fault S p)))
    (sym c.in_default.is ∙ c.in_ok-fault.ensures outcome)
    (first_one c.in-Some-2.fault (undeclared d.exported d.declared (shown_procedure S p)) (option_or (call_fault S (misplaced_call S p)) (io_fault S p))
    (sym c.in-Some-2.is ∙ c.in_ok-fault-2.ensures outcome))

pub returns-in-Some-3 : goal.returns-in-Some-3
returns-in-Some-3 c outcome =
    let q = c.args.procs.now in
    let S = as_system outcome q in
    let d = declared_procedure q.added c.args.k in
    let p = procedure_at q.added c.args.k in
    next_one (Some c.in-Some-3.fault) (not_allowed d.declared (body_determinism S p))
    (option_or (undeclared d.exported d.declared (shown_procedure S p)) (option_or (call_fault S (misplaced_call S p)) (io_fault S p)))
    (sym c.in_default.is ∙ c.in_ok-fault.ensures outcome)
    (next_one (Some c.in-Some-3.fault) (undeclared d.exported d.declared (shown_procedure S p)) (option_or (call_fault S (misplaced_call S p)) (io_fault S p))
    (sym c.in_default-2.is ∙ c.in_ok-fault-2.ensures outcome)
    (first_one c.in-Some-3.fault (call_fault S (misplaced_call S p)) (io_fault S p)
    (sym c.in-Some-3.is ∙ c.in_ok-fault-3.ensures outcome)))

pub returns : goal.returns
returns c =
    let q = c.args.procs.now in
    let d = declared_procedure q.added c.args.k in
    let p = procedure_at q.added c.args.k in
    if_ok_as c.io_fault.result _ _
    (λ f h outcome.
    let S = as_system outcome q in
    next_one f (not_allowed d.declared (body_determinism S p))
    (option_or (undeclared d.exported d.declared (shown_procedure S p)) (option_or (call_fault S (misplaced_call S p)) (io_fault S p)))
    (sym c.in_default.is ∙ c.in_ok-fault.ensures outcome)
    (next_one f (undeclared d.exported d.declared (shown_procedure S p)) (option_or (call_fault S (misplaced_call S p)) (io_fault S p))
    (sym c.in_default-2.is ∙ c.in_ok-fault-2.ensures outcome)
    (next_one f (call_fault S (misplaced_call S p)) (io_fault S p)
    (sym c.in_default-3.is ∙ c.in_ok-fault-3.ensures outcome)
    (h outcome))))
    c.io_fault.ensures
