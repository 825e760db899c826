use Rattle.std.proofs.Common.{◌≡◌, map, drop}
use Rattle.mc_modules.specs.Kept.{plain_item_in_file, table}
use Rattle.mc_modules.specs.code.Tables.{with_items}
use Rattle.mc_modules.proofs.table.Table.of.Given as goal

abbrev pub invariant-loop-item : goal.invariant-loop-item
invariant-loop-item l = with_items l.table (map plain_item_in_file (drop l.item-index l.items)) ≡ table (map plain_item_in_file l.items)
