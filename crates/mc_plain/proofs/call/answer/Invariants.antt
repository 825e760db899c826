use Rattle.std.proofs.Common.{◌≡◌, ◌++◌, map, drop}
use Rattle.mc_program.specs.Values.{plain_value}
use Rattle.mc_model.specs.Events.{bound_values}
use Rattle.mc_model.specs.Stream.{leave}
use Rattle.mc_plain.specs.Frames.{bindings}
use Rattle.mc_plain.proofs.call.answer.Given as goal

abbrev pub invariant-loop-k : goal.invariant-loop-k
invariant-loop-k l = map plain_value l.values.items ++ bound_values (drop l.k (leave l.head l.last (bindings l.heap l.frame.items))) ≡ bound_values (leave l.head l.last (bindings l.heap l.frame.items))
