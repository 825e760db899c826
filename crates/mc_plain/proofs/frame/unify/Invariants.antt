use Rattle.std.proofs.Common.{◌≡◌, length, map, drop}
use Rattle.mc_program.specs.declared.program.Program.{Program}
use Rattle.mc_model.specs.Stream.{unify}
use Rattle.mc_plain.specs.Values.{AreLive, AreHeld}
use Rattle.mc_plain.specs.Frames.{bindings, seen}
use Rattle.mc_plain.proofs.frame.unify.Given as goal

abbrev pub invariant-loop-k : goal.invariant-loop-k
invariant-loop-k l = record {
  size : length l.frame.items ≡ length l.fn.frame.items;
  live : AreLive l.heap l.frame.items;
  held : (P : Program) → AreHeld P l.heap l.values → AreHeld P l.heap l.fn.frame.items → AreHeld P l.heap l.frame.items;
  unifies : unify l.vars (map (seen l.heap) l.values) (bindings l.heap l.fn.frame.items) ≡ unify (drop l.k l.vars) (drop l.k (map (seen l.heap) l.values)) (bindings l.heap l.frame.items);
}
