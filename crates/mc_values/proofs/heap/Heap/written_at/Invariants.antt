use Rattle.std.proofs.Common.{◌≡◌, ◌++◌, vec_len}
use Rattle.mc_values.specs.Heap.{value_at}
use Rattle.mc_values.specs.code.Cells.{written_in}
use Rattle.mc_values.specs.code.Walks.{joined}
use Rattle.mc_values.proofs.heap.Heap.written_at.Given as goal

abbrev pub invariant-loop-piece : goal.invariant-loop-piece
invariant-loop-piece l = l.text ++ joined l.pieces.items ≡ written_in (value_at l.self l.r)

abbrev pub decreases-loop-piece : goal.decreases-loop-piece
decreases-loop-piece l = vec_len l.pieces
