use Rattle.std.proofs.Common.{◌≡◌, ◌++◌, length, drop, map}
use Rattle.mc_procs.specs.Named.{NumbersBelow}
use Rattle.mc_mode_state.specs.States.{point_of}
use Rattle.mc_mode_state.proofs.state.State.insts_at.Given as goal

abbrev pub invariant-loop-x : goal.invariant-loop-x
invariant-loop-x l =
    record {
      below : NumbersBelow (length l.self.insts.items) (drop l.x-index l.xs);
      rest :
          l.found.items ++ map (point_of l.self.insts.items) (drop l.x-index l.xs)
          ≡ map (point_of l.self.insts.items) l.xs;
    }
