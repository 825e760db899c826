use Rattle.mc_det_rules.proofs.Faulting.{none_broken, one_broken}
use Rattle.mc_det_rules.proofs.rules.io_fault.Goals as goal

pub returns-then-io : goal.returns-then-io
returns-then-io c outcome =
    one_broken c.args.procs.now c.args.k c.get-p.result.now c.io.result c.requires.marks c.requires.there c.get-p.ensures c.io.ensures outcome c.in_ok-what.what c.in_ok-what.ensures c.if-io.true

pub returns : goal.returns
returns c outcome =
    none_broken c.args.procs.now c.args.k c.get-p.result.now c.io.result c.requires.marks c.requires.there c.get-p.ensures c.io.ensures outcome c.if-io.false
