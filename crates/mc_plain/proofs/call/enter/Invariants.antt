use Rattle.std.proofs.Common.{◌≡◌, ◌≤◌, length, drop}
use Rattle.std.specs.Prelude.{min}
use Rattle.mc_program.specs.declared.program.Program.{Program}
use Rattle.mc_values.specs.declared.heap.Heap.{Heap}
use Rattle.mc_model.specs.Stream.{enter}
use Rattle.mc_plain.specs.Values.{AreLive, AreHeld}
use Rattle.mc_plain.specs.Frames.{bindings, seen_at}
use Rattle.mc_plain.proofs.call.enter.Given as goal

abbrev pub invariant-loop-k : goal.invariant-loop-k
invariant-loop-k l = record {
  few : l.k ≤ min (min (length l.head) (length l.first)) (length l.args);
  size : length l.frame.items ≡ l.size;
  enters : (h : Heap) → bindings h l.frame.items ≡ enter (drop l.k l.head) (drop l.k l.first) (drop l.k (seen_at h l.caller.items l.args));
  live : (h : Heap) → AreLive h l.caller.items → AreLive h l.frame.items;
  held : (P : Program) (h : Heap) → AreHeld P h l.caller.items → AreHeld P h l.frame.items;
}

abbrev pub decreases-loop-k : goal.decreases-loop-k
decreases-loop-k l = l.k
