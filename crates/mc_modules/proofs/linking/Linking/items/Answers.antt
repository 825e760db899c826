use Rattle.std.proofs.Common.{ap, arith, length, map, ◌∙◌}
use Rattle.mc_modules.specs.Kept.{plain_item_in_file}
use Rattle.mc_modules.proofs.Kept.{items-length, items-at}
use Rattle.mc_modules.proofs.linking.Linking.items.Goals as goal

pub index-requires : goal.index-requires
index-requires c = let e = items-length c.self.inside.files.now c.self.inside.items.items c.self.invariant.listed in let n = ap length c.self.view_is in omega arith

pub returns : goal.returns
returns c =
    let n = ap length c.self.view_is in
    rw (← c.self.view_is)
    (ap (map plain_item_in_file) c.as_slice.ensures.items
    ∙ items-at c.self.inside.files.now c.self.inside.items.items c.args.own c.index.result.now c.self.invariant.listed (omega (arith, n, c.requires)) c.index.ensures)
