use Rattle.std.proofs.Common.{◌≡◌, ◌++◌, map, drop}
use Rattle.mc_decl_syntax.specs.Entries.{plain_files}
use Rattle.mc_modules.specs.Kept.{plain_item_in_file}
use Rattle.mc_modules.specs.code.Tables.{all_items}
use Rattle.mc_modules.proofs.items.all_items.Given as goal

abbrev pub invariant-loop-file : goal.invariant-loop-file
invariant-loop-file l =
    map (map plain_item_in_file) l.all.items ++ all_items (plain_files (drop l.file-index l.files)) ≡ all_items (plain_files l.files)
