use Rattle.std.proofs.Common.{◌≡◌, ◌+◌, length}
use Rattle.std.specs.List.{All}
use Rattle.mc_types.specs.Holds.{InOrder}
use Rattle.mc_types.specs.code.Joins.{PairWithin, weight}
use Rattle.mc_types.specs.Changes.{Grown, NothingNew}
use Rattle.mc_types.proofs.Turns.{Says}
use Rattle.mc_types.proofs.joins.unify.Given as goal

abbrev pub invariant-loop-pair : goal.invariant-loop-pair
invariant-loop-pair l = record {
  in_order : InOrder l.g.cells.items;
  len : length l.g.cells.items ≡ length l.fn.g.cells.items;
  grown : Grown l.fn.g.cells.items l.fn.g.changes.items l.g.cells.items l.g.changes.items;
  nothing_new : NothingNew l.fn.g.cells.items l.g.cells.items;
  within : All (PairWithin (length l.fn.g.cells.items)) l.work.items;
  says : Says l.fn.g.cells.items l.left l.right l.g.cells.items l.work.items;
}

abbrev pub decreases-loop-pair : goal.decreases-loop-pair
decreases-loop-pair l = weight l.g.cells.items + length l.work.items
