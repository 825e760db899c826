use Rattle.std.proofs.Common.{◌≡◌, ◌≤◌, length, take, drop}
use Rattle.mc_types.specs.Changes.{undone}
use Rattle.mc_types.proofs.joins.restore.Given as goal

abbrev pub invariant-loop-g : goal.invariant-loop-g
invariant-loop-g l = record {
  enough : l.changes ≤ length l.g.changes.items;
  front : take l.changes l.g.changes.items ≡ take l.changes l.initial.g.changes.items;
  rest : undone (drop l.changes l.g.changes.items) l.g.cells.items ≡ undone (drop l.changes l.initial.g.changes.items) l.initial.g.cells.items;
}

abbrev pub decreases-loop-g : goal.decreases-loop-g
decreases-loop-g l = length l.g.changes.items
