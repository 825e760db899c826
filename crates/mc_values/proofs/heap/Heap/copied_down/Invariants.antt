use Rattle.std.proofs.Common.{◌≡◌, ◌+◌}
use Rattle.mc_values.specs.Heap.{IsLive, value_at}
use Rattle.mc_values.specs.code.Walks.{size, filled, AreLiveParts, parts_size}
use Rattle.mc_values.proofs.heap.Heap.copied_down.Given as goal

abbrev pub invariant-loop-i : goal.invariant-loop-i
invariant-loop-i l = record {
  live : IsLive l.self l.at;
  rest : AreLiveParts l.self l.parts.items;
  copied : filled l.self l.parts.items (value_at l.self l.at) ≡ filled l.self l.fn.parts.items (value_at l.self l.r);
  less : parts_size l.self l.parts.items + size (value_at l.self l.at) ≡ parts_size l.self l.fn.parts.items + size (value_at l.self l.r);
}

abbrev pub decreases-loop-i : goal.decreases-loop-i
decreases-loop-i l = size (value_at l.self l.at)
