use Rattle.std.proofs.Common.{ap, arith, length}
use Rattle.mc_modules.proofs.Kept.{visibilities-length, visibility-at}
use Rattle.mc_modules.proofs.linking.Linking.visibility.Goals as goal

pub index-requires : goal.index-requires
index-requires c = let e = visibilities-length c.self.inside.files.now c.self.inside.visibilities.items c.self.invariant.with_visibility in let n = ap length c.self.view_is in omega arith

pub returns : goal.returns
returns c =
    let n = ap length c.self.view_is in
    rw (← c.self.view_is) (visibility-at c.self.inside.files.now c.self.inside.visibilities.items c.args.own c.index.result.now c.self.invariant.with_visibility (omega (arith, n, c.requires)) c.index.ensures)
