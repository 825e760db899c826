use Rattle.std.proofs.Common.{◌≡◌, length, drop}
use Rattle.mc_program.specs.declared.program.Program.{Program}
use Rattle.mc_model.specs.Stream.{leave, unify}
use Rattle.mc_plain.specs.Values.{AreLive, AreHeld}
use Rattle.mc_plain.specs.Frames.{bindings}
use Rattle.mc_plain.proofs.call.returned.Given as goal

abbrev pub invariant-loop-k : goal.invariant-loop-k
invariant-loop-k l = record {
  size : length l.caller.items ≡ length l.fn.caller.items;
  live : AreLive l.heap l.caller.items;
  held : (P : Program) → AreHeld P l.heap l.callee.items → AreHeld P l.heap l.fn.caller.items → AreHeld P l.heap l.caller.items;
  unifies : unify l.args (leave l.head l.last (bindings l.heap l.callee.items)) (bindings l.heap l.fn.caller.items) ≡ unify (drop l.k l.args) (drop l.k (leave l.head l.last (bindings l.heap l.callee.items))) (bindings l.heap l.caller.items);
}
