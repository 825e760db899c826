use Rattle.std.proofs.Common.{◌≡◌, ◌+◌, ◌≤◌, drop}
use Rattle.mc_accepted.specs.Ordered.{times_in}
use Rattle.mc_mode_state.proofs.modes.times_in.Given as goal

abbrev pub invariant-loop-y : goal.invariant-loop-y
invariant-loop-y l =
    record {
      few : l.times ≤ l.y-index;
      rest : l.times + times_in l.x (drop l.y-index l.xs) ≡ times_in l.x l.xs;
    }
