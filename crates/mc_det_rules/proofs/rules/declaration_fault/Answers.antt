use Rattle.mc_det_rules.proofs.Faulting.{allowed_told}
use Rattle.mc_det_rules.proofs.rules.declaration_fault.Goals as goal

pub returns : goal.returns
returns c outcome =
    allowed_told c.args.procs.now c.args.k c.get-p.result.now c.in_ok-fault.fault c.requires.marks c.requires.there c.get-p.ensures c.in_ok-fault.ensures outcome
