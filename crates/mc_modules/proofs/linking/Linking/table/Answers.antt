use Rattle.std.proofs.Common.{ap, arith, length}
use Rattle.mc_modules.proofs.Kept.{tables-length, table-at}
use Rattle.mc_modules.proofs.linking.Linking.table.Goals as goal

pub index-requires : goal.index-requires
index-requires c = let e = tables-length c.self.inside.files.now c.self.inside.tables.items c.self.invariant.tabled in let n = ap length c.self.view_is in omega arith

pub returns : goal.returns
returns c =
    let n = ap length c.self.view_is in
    rw (← c.self.view_is) (table-at c.self.inside.files.now c.self.inside.tables.items c.args.own c.index.result.now c.self.invariant.tabled (omega (arith, n, c.requires.own)) c.index.ensures)
