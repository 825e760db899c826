use Rattle.std.proofs.Common.{arith}
use Rattle.mc_det_rules.proofs.Finding.{call_told}
use Rattle.mc_det_rules.proofs.io.is_io_call.Goals as goal

pub returns : goal.returns
returns c =
    let q = c.args.procs.now in
    call_told q c.args.k c.get.result.now c.as_slice.result.now c.leaves_dead.result c.fit.ensures.all (omega arith) c.get.ensures c.as_slice.ensures.items c.leaves_dead.ensures
