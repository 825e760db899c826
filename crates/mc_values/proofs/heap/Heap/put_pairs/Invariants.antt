use Rattle.std.proofs.Common.{◌≡◌, ◌≤◌, length, drop}
use Rattle.mc_values.specs.code.Walks.{with_pairs}
use Rattle.mc_values.proofs.heap.Heap.put_pairs.Given as goal

abbrev pub invariant-loop-k : goal.invariant-loop-k
invariant-loop-k l = record {
  few : l.k ≤ length l.left;
  pairs : l.pairs.items ≡ with_pairs l.fn.pairs.items (drop l.k l.left) (drop l.k l.right);
}

abbrev pub decreases-loop-k : goal.decreases-loop-k
decreases-loop-k l = l.k
