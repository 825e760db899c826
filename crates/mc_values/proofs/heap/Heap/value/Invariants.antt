use Rattle.std.proofs.Common.{◌≡◌}
use Rattle.mc_program.specs.Values.{plain_value}
use Rattle.mc_values.specs.Heap.{value_at}
use Rattle.mc_values.specs.code.Walks.{filled, AreLiveParts, parts_size}
use Rattle.mc_values.proofs.heap.Heap.value.Given as goal

abbrev pub invariant-loop-part : goal.invariant-loop-part
invariant-loop-part l = record {
  rest : AreLiveParts l.self l.parts.items;
  copied : filled l.self l.parts.items (plain_value l.copy) ≡ value_at l.self l.r;
}

abbrev pub decreases-loop-part : goal.decreases-loop-part
decreases-loop-part l = parts_size l.self l.parts.items
