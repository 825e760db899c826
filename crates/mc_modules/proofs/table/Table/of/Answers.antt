use Rattle.std.proofs.Common.{map}
use Rattle.mc_modules.specs.Kept.{plain_item_in_file}
use Rattle.mc_modules.proofs.Tables.{table-is}
use Rattle.mc_modules.proofs.table.Table.of.Goals as goal

pub loop-item-init : goal.loop-item-init
loop-item-init c = table-is _ (map plain_item_in_file c.args.items.now) c.new.ensures c.new-2.ensures c.new-3.ensures c.new-4.ensures
