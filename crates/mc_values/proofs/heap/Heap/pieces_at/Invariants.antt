use Rattle.std.proofs.Common.{◌≡◌, ◌++◌}
use Rattle.std.specs.Prelude.{IfSome}
use Rattle.mc_values.specs.Heap.{IsLive, value_at}
use Rattle.mc_values.specs.code.Cells.{written_in, written_before}
use Rattle.mc_values.specs.code.Walks.{rank, joined}
use Rattle.mc_values.proofs.heap.Heap.pieces_at.Given as goal

abbrev pub invariant-loop-state : goal.invariant-loop-state
invariant-loop-state l = record {
  live : IfSome l.state (IsLive l.self);
  pieces : written_before (value_at l.self) l.state ++ joined l.pieces.items ≡ written_in (value_at l.self l.r);
}

abbrev pub decreases-loop-state : goal.decreases-loop-state
decreases-loop-state l = rank l.state
