use Rattle.std.proofs.Common.{◌≡◌, ◌≤◌, length, drop}
use Rattle.mc_mode_state.specs.States.{point_of}
use Rattle.mc_mode_state.specs.code.Entries.{entered}
use Rattle.mc_mode_state.proofs.entry.first_insts.Given as goal

abbrev pub invariant-loop-k : goal.invariant-loop-k
invariant-loop-k l =
    record {
      within : l.k ≤ length l.head;
      count : length l.insts.items ≡ l.many;
      point : point_of l.insts.items ≡ entered (drop l.k l.head) (drop l.k l.first);
    }

abbrev pub decreases-loop-k : goal.decreases-loop-k
decreases-loop-k l = l.k
