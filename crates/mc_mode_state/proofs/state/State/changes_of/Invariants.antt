use Rattle.std.proofs.Common.{◌≡◌, ◌≤◌, length}
use Rattle.mc_accepted.specs.Arranged.{changes_from}
use Rattle.mc_accepted.specs.NodeOracle.{other_node}
use Rattle.mc_mode_state.specs.States.{point_of, undo}
use Rattle.mc_mode_state.proofs.ChangesTold.{DoneBelow}
use Rattle.mc_mode_state.proofs.state.State.changes_of.Given as goal

abbrev pub invariant-loop-x : goal.invariant-loop-x
invariant-loop-x l =
    let now = point_of l.self.insts.items in
    record {
      told : l.changes.items ≡ changes_from other_node 0 l.next (undo l.replaced now) now;
      there : l.next ≤ length l.self.insts.items;
      done : DoneBelow l.next l.x-index l.replaced;
    }
