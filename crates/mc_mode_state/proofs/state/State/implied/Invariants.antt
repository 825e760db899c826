use Rattle.std.proofs.Common.{◌≡◌, ◌≤◌, ◌++◌, length}
use Rattle.mc_model.specs.Stream.{is_bound}
use Rattle.mc_accepted.specs.Ordered.{zipped, implied_places}
use Rattle.mc_mode_state.specs.States.{point_of}
use Rattle.mc_mode_state.proofs.Implied.{rest_from}
use Rattle.mc_mode_state.proofs.state.State.implied.Given as goal

abbrev pub invariant-loop-k : goal.invariant-loop-k
invariant-loop-k l =
    record {
      few : length l.places ≤ l.k;
      rest :
          l.places
          ++ rest_from l.mode.first l.mode.last l.xs (point_of l.self.insts.items) l.k l.given.items
          ≡ implied_places 0 (zipped l.mode.first l.mode.last) l.xs
          (λ x. is_bound (point_of l.self.insts.items x));
    }
