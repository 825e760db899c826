use Rattle.std.proofs.Common.{◌≡◌, drop, All}
use Rattle.mc_program.specs.declared.program.Program.{Program}
use Rattle.mc_values.specs.declared.heap.Heap.{Heap}
use Rattle.mc_values.specs.Heap.{IsLive, values_at}
use Rattle.mc_model.specs.Stream.{gather}
use Rattle.mc_plain.specs.Values.{IsHeld, AreLive, AreHeld}
use Rattle.mc_plain.specs.Frames.{bindings}
use Rattle.mc_plain.proofs.Unifying.{behind}
use Rattle.mc_plain.proofs.frame.gather.Given as goal

abbrev pub invariant-loop-x : goal.invariant-loop-x
invariant-loop-x l = record {
  gathers : (h : Heap) → gather l.vars (bindings h l.frame.items) ≡ behind (values_at h l.refs.items) (gather (drop l.x-index l.vars) (bindings h l.frame.items));
  live : (h : Heap) → AreLive h l.frame.items → All (IsLive h) l.refs.items;
  held : (P : Program) (h : Heap) → AreHeld P h l.frame.items → All (IsHeld P h) l.refs.items;
}
