use Rattle.std.proofs.Common.{subst}
use Rattle.mc_names.specs.Plain.{PlainNameArity, plain_name_arity}
use Rattle.mc_names.specs.Linked.{plain_names}
use Rattle.mc_accepted.specs.InstRules.{NotWellFounded}
use Rattle.mc_inst_table.specs.Rules.{inst_bodies, own_number}
use Rattle.mc_inst_table.specs.code.Faults.{FoundedSays}
use Rattle.mc_inst_table.proofs.Faulting.{told_founded}
use Rattle.mc_inst_table.proofs.faults.inst_fault.Goals as goal

pub returns : goal.returns
returns c =
    let l = plain_names c.args.names.now in
    let id = plain_name_arity c.head_name-id.result in
    subst
    (λ (x : PlainNameArity).
    FoundedSays (NotWellFounded (inst_bodies l) x.arity (own_number l c.args.own l.insts x)) x c.in_ok-fault.fault)
    c.head_name-id.ensures
    (told_founded (NotWellFounded (inst_bodies l) id.arity (own_number l c.args.own l.insts id)) id c.in_ok-holds.holds
    c.in_ok-fault.fault c.in_ok-holds.ensures c.in_ok-fault.ensures)
