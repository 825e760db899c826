use Rattle.std.proofs.Common.{◌≡◌, ◌++◌, map, drop, nat_eq}
use Rattle.mc_decl_syntax.specs.Entries.{plain_entry}
use Rattle.mc_modules.specs.Files.{items_in_file, items_in_file_from}
use Rattle.mc_modules.specs.Kept.{plain_item_in_file}
use Rattle.mc_modules.proofs.items.items_in_file.Given as goal

abbrev pub invariant-loop-index : goal.invariant-loop-index
invariant-loop-index l =
    map plain_item_in_file l.all.items ++ items_in_file_from (nat_eq l.index 0) l.section (map plain_entry (drop l.index l.file)) ≡ items_in_file (map plain_entry l.file)
