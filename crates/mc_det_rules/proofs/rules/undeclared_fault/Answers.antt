use Rattle.mc_accepted.specs.DeterminismFaults.{shown}
use Rattle.mc_procs.specs.Procedures.{source_of}
use Rattle.mc_det_rules.proofs.Faulting.{undeclared_told}
use Rattle.mc_det_rules.proofs.rules.undeclared_fault.Goals as goal

pub returns : goal.returns
returns c outcome =
    undeclared_told c.args.procs.now c.args.k c.get-p.result.now c.undeclared-fault.result c.requires c.get-p.ensures
    (c.undeclared-fault.ensures (shown ((source_of c.args.procs.now).preds c.get-p.result.now.pred).name) c.in_ok-name.ensures) outcome
