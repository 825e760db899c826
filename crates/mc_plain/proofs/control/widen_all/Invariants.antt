use Rattle.std.proofs.Common.{◌≡◌, ◌<◌, ◌≤◌, ℕ, length, get_or}
use Rattle.mc_program.specs.declared.program.Program.{Program}
use Rattle.mc_values.specs.declared.heap.Heap.{Heap}
use Rattle.mc_plain.specs.Values.{AreLive, AreHeld}
use Rattle.mc_plain.specs.Frames.{bindings}
use Rattle.mc_plain.proofs.control.widen_all.Given as goal

abbrev pub invariant-loop-variable : goal.invariant-loop-variable
invariant-loop-variable l =
    record {
      room : (k : ℕ) → k < l.variable-index → get_or l.variables k 0 < length l.frame.items;
      wider : length l.fn.frame.items ≤ length l.frame.items;
      same : (h : Heap) → bindings h l.frame.items ≡ bindings h l.fn.frame.items;
      live : (h : Heap) → AreLive h l.fn.frame.items → AreLive h l.frame.items;
      held : (P : Program) (h : Heap) → AreHeld P h l.fn.frame.items → AreHeld P h l.frame.items;
    }
