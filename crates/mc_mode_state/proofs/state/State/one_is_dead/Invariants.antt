use Rattle.std.proofs.Common.{◌≡◌, length, drop, nat_eq}
use Rattle.std.specs.List.{list_any}
use Rattle.mc_procs.specs.Named.{NumbersBelow}
use Rattle.mc_mode_state.specs.States.{point_of}
use Rattle.mc_mode_state.proofs.state.State.one_is_dead.Given as goal

abbrev pub invariant-loop-x : goal.invariant-loop-x
invariant-loop-x l =
    record {
      below : NumbersBelow (length l.self.insts.items) (drop l.x-index l.xs);
      rest :
          list_any (λ x. nat_eq (point_of l.self.insts.items x) 3) (drop l.x-index l.xs)
          ≡ list_any (λ x. nat_eq (point_of l.self.insts.items x) 3) l.xs;
    }
