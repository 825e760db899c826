use Rattle.std.proofs.Common.{◌≡◌, ◌||◌, length, drop, not}
use Rattle.std.specs.List.{list_any}
use Rattle.mc_model.specs.Stream.{is_bound}
use Rattle.mc_accepted.specs.Ordered.{is_state}
use Rattle.mc_procs.specs.Named.{NumbersBelow}
use Rattle.mc_mode_state.specs.Nodes.{type_in}
use Rattle.mc_mode_state.specs.States.{point_of}
use Rattle.mc_mode_state.proofs.state.State.one_is_free_or_state.Given as goal

abbrev pub invariant-loop-y : goal.invariant-loop-y
invariant-loop-y l =
    record {
      insts : NumbersBelow (length l.self.insts.items) (drop l.y-index l.ys);
      types : NumbersBelow (length l.self.types.items) (drop l.y-index l.ys);
      rest :
          list_any
          (λ y. not (is_bound (point_of l.self.insts.items y)) || is_state (type_in l.self.types.items y))
          (drop l.y-index l.ys)
          ≡ list_any
          (λ y. not (is_bound (point_of l.self.insts.items y)) || is_state (type_in l.self.types.items y))
          l.ys;
    }
