use Rattle.std.proofs.Common.{◌≡◌, ◌≤◌, ◌-◌, ◌+◌, ℕ, length, get_or, None}
use Rattle.mc_program.specs.declared.program.Program.{Program}
use Rattle.mc_values.specs.declared.heap.Heap.{Heap}
use Rattle.mc_plain.specs.Values.{AreLive, AreHeld}
use Rattle.mc_plain.proofs.control.widen.Given as goal

abbrev pub invariant-loop-frame : goal.invariant-loop-frame
invariant-loop-frame l =
    record {
      same : (x : ℕ) → get_or l.frame.items x None ≡ get_or l.fn.frame.items x None;
      wider : length l.fn.frame.items ≤ length l.frame.items;
      live : (h : Heap) → AreLive h l.fn.frame.items → AreLive h l.frame.items;
      held : (P : Program) (h : Heap) → AreHeld P h l.fn.frame.items → AreHeld P h l.frame.items;
    }

abbrev pub decreases-loop-frame : goal.decreases-loop-frame
decreases-loop-frame l = l.variable + 1 - length l.frame.items
