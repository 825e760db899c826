use Rattle.std.proofs.Common.{◌∙◌, ap, map}
use Rattle.std.proofs.lemmas.List.{map-append}
use Rattle.mc_modules.specs.Kept.{plain_item_in_file}
use Rattle.mc_modules.proofs.ItemLists.{items-more}
use Rattle.mc_modules.proofs.items.items_in_file.Goals as goal

pub loop-index-preserved : goal.loop-index-preserved
loop-index-preserved c =
    items-more c.args.file.now c.loop-index.index c.index-file-index.result c.loop-index.section _ (map plain_item_in_file c.loop-index.all.items) _ _
    c.loop-index-test.true c.index-file-index.is (ap (map plain_item_in_file) c.in_ok-push.ensures.items ∙ map-append plain_item_in_file c.loop-index.all.items _)
    c.after-section.ensures c.loop-index.invariant
