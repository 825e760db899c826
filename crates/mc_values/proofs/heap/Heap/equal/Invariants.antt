use Rattle.std.proofs.Common.{◌≡◌, ◌+◌}
use Rattle.mc_values.specs.Heap.{IsLive, value_at}
use Rattle.mc_values.specs.code.Walks.{size, AreSame, AreLivePairs, pairs_size}
use Rattle.mc_values.proofs.heap.Heap.equal.Given as goal

abbrev pub invariant-loop-pairs : goal.invariant-loop-pairs
invariant-loop-pairs l = record {
  left : IsLive l.self l.left;
  right : IsLive l.self l.right;
  pairs : AreLivePairs l.self l.pairs.items;
  to : AreSame l.self l.pairs.items → value_at l.self l.left ≡ value_at l.self l.right → value_at l.self l.a ≡ value_at l.self l.b;
  from : value_at l.self l.a ≡ value_at l.self l.b → AreSame l.self l.pairs.items × (value_at l.self l.left ≡ value_at l.self l.right);
}

abbrev pub decreases-loop-pairs : goal.decreases-loop-pairs
decreases-loop-pairs l = pairs_size l.self l.pairs.items + size (value_at l.self l.left)
