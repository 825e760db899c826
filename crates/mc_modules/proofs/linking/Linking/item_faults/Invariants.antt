use Rattle.std.proofs.Common.{◌≡◌, ◌++◌, [], map, drop}
use Rattle.mc_modules.specs.Files.{items_in_file}
use Rattle.mc_decl_syntax.specs.Entries.{plain_files}
use Rattle.mc_modules.specs.Visible.{file_at}
use Rattle.mc_modules.specs.Kept.{plain_item_in_file}
use Rattle.mc_modules.specs.code.Steps.{with_set, faults_behind}
use Rattle.mc_modules.proofs.linking.Linking.item_faults.Given as goal

abbrev pub invariant-loop-item : goal.invariant-loop-item
invariant-loop-item l =
    l.broken.items ++ faults_behind (plain_files l.self) l.own (items_in_file (file_at (plain_files l.self) l.own)) (with_set l.before (map plain_item_in_file (drop l.item-index l.items)))
    ≡ l.initial.broken.items ++ faults_behind (plain_files l.self) l.own (items_in_file (file_at (plain_files l.self) l.own)) (with_set [] (map plain_item_in_file l.items))
