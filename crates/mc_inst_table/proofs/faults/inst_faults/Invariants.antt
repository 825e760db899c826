use Rattle.std.proofs.Common.{◌≡◌, [], take}
use Rattle.mc_decl_syntax.specs.Entries.{plain_files}
use Rattle.mc_names.specs.Linked.{plain_names}
use Rattle.mc_inst_table.specs.Rules.{items_from}
use Rattle.mc_inst_table.specs.code.Faults.{AddsFaults}
use Rattle.mc_inst_table.proofs.faults.inst_faults.Given as goal

abbrev pub invariant-loop-file : goal.invariant-loop-file
invariant-loop-file l =
    (l.own ≡ l.file-index)
    × AddsFaults (plain_names l.names) (items_from 0 (plain_files (take l.file-index l.files))) [] l.broken.items
