use Rattle.std.proofs.Common.{◌≡◌, map, take}
use Rattle.std.specs.Prelude.{All}
use Rattle.mc_program.specs.Values.{plain_value}
use Rattle.mc_values.specs.Heap.{IsLive, values_at}
use Rattle.mc_plain.proofs.begin.constants_of.Given as goal

abbrev pub invariant-loop-value : goal.invariant-loop-value
invariant-loop-value l =
    record {
      live : All (IsLive l.heap) l.refs.items;
      values : values_at l.heap l.refs.items ≡ map plain_value (take l.value-index l.values.items);
    }
