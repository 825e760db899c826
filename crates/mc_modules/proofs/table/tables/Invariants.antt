use Rattle.std.proofs.Common.{◌≡◌, ◌++◌, map, drop}
use Rattle.mc_modules.specs.Kept.{plain_item_in_file}
use Rattle.mc_modules.specs.code.Tables.{tables}
use Rattle.mc_modules.proofs.table.tables.Given as goal

abbrev pub invariant-loop-items : goal.invariant-loop-items
invariant-loop-items l =
    l.all.items ++ tables (map (map plain_item_in_file) (drop l.items-index l.files)) ≡ tables (map (map plain_item_in_file) l.files)
