use Rattle.std.proofs.Common.{rules}
use Rattle.mc_values.specs.Heap.{IsLive}
use Rattle.mc_values.proofs.CellLaws.{within, held_cell, named_below}
use Rattle.mc_values.proofs.heap.Heap.cell.Goals as goal

pub index-requires : goal.index-requires
unfolding IsLive
index-requires c = let h = within c.self.inside.cells.items c.args.self.now c.args.r c.self.view_is c.requires in search rules

pub returns-clause-value : goal.returns-clause-value
unfolding IsLive
returns-clause-value c = held_cell c.self.inside.cells.items c.args.self.now c.args.r c.index.result.now c.self.invariant c.self.view_is c.requires c.index.ensures

pub returns-clause-below : goal.returns-clause-below
unfolding IsLive
returns-clause-below c = named_below c.self.inside.cells.items c.args.self.now c.args.r c.index.result.now c.self.invariant c.self.view_is c.requires c.index.ensures
