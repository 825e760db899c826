use Rattle.std.proofs.Common.{◌≡◌, ℕ, ◌+◌, length, get_or, drop}
use Rattle.mc_procs.specs.Named.{NumbersBelow}
use Rattle.mc_accepted.specs.Ordered.{times_in}
use Rattle.mc_mode_state.proofs.state.count_up.Given as goal

abbrev pub invariant-loop-x : goal.invariant-loop-x
invariant-loop-x l =
    record {
      below : NumbersBelow (length l.outside.items) (drop l.x-index l.vars);
      len : length l.outside.items ≡ length l.fn.outside.items;
      counts :
          (x : ℕ)
          → get_or l.outside.items x 0 + times_in x (drop l.x-index l.vars)
          ≡ get_or l.fn.outside.items x 0 + times_in x l.vars;
    }
