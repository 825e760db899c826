use Rattle.std.proofs.Common.{◌≡◌, ◌++◌, drop, map}
use Rattle.mc_modules.specs.Files.{definitions_of}
use Rattle.mc_modules.specs.Kept.{plain_item_in_file}
use Rattle.mc_modules.specs.Linked.{numbered}
use Rattle.mc_modules.proofs.numbered.numbered_in.Given as goal

abbrev pub invariant-loop-item : goal.invariant-loop-item
invariant-loop-item l =
    l.found.all.items ++ numbered l.found.con l.found.pred (definitions_of (map plain_item_in_file (drop l.item-index l.items))) ≡ numbered l.con l.pred (definitions_of (map plain_item_in_file l.items))
