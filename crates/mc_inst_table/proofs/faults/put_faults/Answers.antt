use Rattle.mc_names.specs.Linked.{plain_names}
use Rattle.mc_inst_table.proofs.Faulting.{adds_none, entry_more}
use Rattle.mc_inst_table.proofs.faults.put_faults.Goals as goal

pub loop-entry-init : goal.loop-entry-init
loop-entry-init c = adds_none (plain_names c.args.names.now) c.args.broken.now.items

pub loop-entry-preserved : goal.loop-entry-preserved
loop-entry-preserved c =
    entry_more (plain_names c.args.names.now) c.args.own c.args.entries.now c.loop-entry.entry-index c.entry-item.result
    c.args.broken.now.items c.loop-entry.broken.items c.put_fault.new.broken.items c.loop-entry-test.true c.entry-item.is
    c.loop-entry.invariant c.in_ok-put_fault.ensures
