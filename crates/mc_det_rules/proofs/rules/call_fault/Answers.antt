use Rattle.std.proofs.Common.{sym, ap, ◌∙◌, subst}
use Rattle.mc_model.specs.PlainGoals.{plain_proc}
use Rattle.mc_model.specs.declared.sched.Proc.{Proc}
use Rattle.mc_accepted.specs.DeterminismFaults.{call_fault}
use Rattle.mc_procs.specs.Fitting.{ProcedureFits}
use Rattle.mc_procs.specs.Procedures.{as_system}
use Rattle.mc_det.proofs.Declaring.{procedure_is, if_ok_as}
use Rattle.mc_det_rules.proofs.Faulting.{call_told}
use Rattle.mc_det_rules.proofs.rules.call_fault.Goals as goal

pub misplaced_call-requires : goal.misplaced_call-requires
misplaced_call-requires c =
    let q = c.args.procs.now in
    let k = c.args.k in
    subst (λ (p : Proc). ProcedureFits q (plain_proc p)) (sym c.get.ensures)
    (subst (ProcedureFits q) (procedure_is q.added k c.get.result.now c.requires.there) (c.fit.ensures.all.each k c.requires.there))

pub returns : goal.returns
returns c =
    let q = c.args.procs.now in
    if_ok_as c.call_fault_of.result _ _
    (λ f h outcome.
    h outcome
    ∙ ap (call_fault (as_system outcome q)) (call_told q c.args.k c.get.result.now c.in_ok-found.found c.requires.marks c.requires.there c.get.ensures c.in_ok-found.ensures outcome))
    c.call_fault_of.ensures
