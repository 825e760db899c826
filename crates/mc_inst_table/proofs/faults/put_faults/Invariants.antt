use Rattle.std.proofs.Common.{map, take}
use Rattle.mc_decl_syntax.specs.Entries.{plain_entry}
use Rattle.mc_names.specs.Linked.{plain_names}
use Rattle.mc_inst_table.specs.Rules.{module_items}
use Rattle.mc_inst_table.specs.code.Faults.{AddsFaults}
use Rattle.mc_inst_table.proofs.faults.put_faults.Given as goal

abbrev pub invariant-loop-entry : goal.invariant-loop-entry
invariant-loop-entry l =
    AddsFaults (plain_names l.names) (module_items l.own (map plain_entry (take l.entry-index l.entries)))
    l.initial.broken.items l.broken.items
