use Rattle.std.proofs.Common.{◌≡◌, ℕ, ◌≤◌, ◌+◌, length, get_or, drop}
use Rattle.mc_procs.specs.Named.{NumbersBelow}
use Rattle.mc_accepted.specs.Ordered.{times_in}
use Rattle.mc_mode_state.proofs.state.State.leave.Given as goal

abbrev pub invariant-loop-x : goal.invariant-loop-x
invariant-loop-x l =
    record {
      below : NumbersBelow (length l.self.outside.items) (drop l.x-index l.vars);
      insts : l.self.insts ≡ l.fn.self.insts;
      trail : l.self.trail ≡ l.fn.self.trail;
      types : l.self.types ≡ l.fn.self.types;
      nodes : l.self.nodes ≡ l.fn.self.nodes;
      len : length l.self.outside.items ≡ length l.fn.self.outside.items;
      enough : (x : ℕ) → times_in x (drop l.x-index l.vars) ≤ get_or l.self.outside.items x 0;
      counts :
          (x : ℕ)
          → get_or l.self.outside.items x 0 + times_in x l.vars
          ≡ get_or l.fn.self.outside.items x 0 + times_in x (drop l.x-index l.vars);
    }
