use Rattle.std.proofs.Common.{sym, ap}
use Rattle.mc_procs.specs.Procedures.{PlainProcs}
use Rattle.mc_switch.proofs.SwitchedProcs.{all_switched_stand}
use Rattle.mc_switch.proofs.procedures.switches.Goals as goal

pub replace_all-requires-clause-stand : goal.replace_all-requires-clause-stand
replace_all-requires-clause-stand c =
    let q : PlainProcs = c.args.procs.now in
    let did = c.in_ok-switched.ensures in
    all_switched_stand c.switched_procs.new.procs c.in_ok-switched.switched.items q.added (sym (ap (λ (v : PlainProcs). v.added) did.grew.others)) c.fit.ensures.all did.count did.switched
