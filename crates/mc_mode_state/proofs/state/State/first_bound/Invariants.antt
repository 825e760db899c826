use Rattle.std.proofs.Common.{◌≡◌, length, drop}
use Rattle.mc_model.specs.Stream.{is_bound}
use Rattle.mc_procs.specs.Named.{NumbersBelow}
use Rattle.mc_mode_state.specs.States.{point_of}
use Rattle.mc_mode_state.proofs.Leasts.{first_that}
use Rattle.mc_mode_state.proofs.state.State.first_bound.Given as goal

abbrev pub invariant-loop-x : goal.invariant-loop-x
invariant-loop-x l =
    record {
      below : NumbersBelow (length l.self.insts.items) (drop l.x-index l.xs);
      rest :
          first_that (λ x. is_bound (point_of l.self.insts.items x)) (drop l.x-index l.xs)
          ≡ first_that (λ x. is_bound (point_of l.self.insts.items x)) l.xs;
    }
