use Rattle.std.proofs.Common.{◌≡◌, ◌++◌, replicate}
use Rattle.mc_types.specs.Holds.{InOrder}
use Rattle.mc_types.specs.Changes.{Grown}
use Rattle.mc_types.specs.declared.cells.Cell.TheVariants.{Free}
use Rattle.mc_types.proofs.fresh.add_free.Given as goal

abbrev pub invariant-loop-k : goal.invariant-loop-k
invariant-loop-k l = record {
  cells : l.g.cells.items ≡ l.fn.g.cells.items ++ replicate l._k Free;
  in_order : InOrder l.g.cells.items;
  grown : Grown l.fn.g.cells.items l.fn.g.changes.items l.g.cells.items l.g.changes.items;
}
