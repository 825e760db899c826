use Rattle.mc_decl_syntax.specs.Entries.{plain_entry}
use Rattle.mc_names.specs.Linked.{plain_names}
use Rattle.mc_inst_table.proofs.Faulting.{adds_one}
use Rattle.mc_inst_table.proofs.faults.put_fault.Goals as goal

pub returns : goal.returns
returns c =
    adds_one (plain_names c.args.names.now) c.args.own (plain_entry c.args.entry.now) c.in_ok-fault.fault
    c.args.broken.now.items c.put_broken.new.broken.items (c.in_ok-fault.ensures c.args.entry.now.at)
    c.in_ok-put_broken.ensures
