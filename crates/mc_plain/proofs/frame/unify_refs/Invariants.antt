use Rattle.std.proofs.Common.{◌≡◌, length, map, drop, Some, All}
use Rattle.mc_program.specs.declared.program.Program.{Program}
use Rattle.mc_values.specs.Heap.{values_at}
use Rattle.mc_model.specs.Stream.{unify}
use Rattle.mc_plain.specs.Values.{IsHeld, AreLive, AreHeld}
use Rattle.mc_plain.specs.Frames.{bindings}
use Rattle.mc_plain.proofs.frame.unify_refs.Given as goal

abbrev pub invariant-loop-k : goal.invariant-loop-k
invariant-loop-k l = record {
  size : length l.frame.items ≡ length l.fn.frame.items;
  live : AreLive l.heap l.frame.items;
  held : (P : Program) → All (IsHeld P l.heap) l.refs → AreHeld P l.heap l.fn.frame.items → AreHeld P l.heap l.frame.items;
  unifies : unify l.vars (map Some (values_at l.heap l.refs)) (bindings l.heap l.fn.frame.items) ≡ unify (drop l.k l.vars) (drop l.k (map Some (values_at l.heap l.refs))) (bindings l.heap l.frame.items);
}
