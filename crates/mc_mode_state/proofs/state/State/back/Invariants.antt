use Rattle.std.proofs.Common.{◌≡◌, ◌≤◌, length}
use Rattle.mc_mode_state.specs.States.{TrailWithin, TrailRestores}
use Rattle.mc_mode_state.specs.declared.state.State.{State}
use Rattle.mc_mode_state.proofs.state.State.back.Given as goal

abbrev pub invariant-loop-self : goal.invariant-loop-self
invariant-loop-self l =
    record {
      within : TrailWithin (length l.self.insts.items) l.self.trail.items;
      count : length l.self.insts.items ≡ length l.fn.self.insts.items;
      outside : l.self.outside ≡ l.fn.self.outside;
      types : l.self.types ≡ l.fn.self.types;
      nodes : l.self.nodes ≡ l.fn.self.nodes;
      leads : (s : State) → TrailRestores s l.fn.self → length s.trail.items ≡ l.trail → TrailRestores s l.self;
      ends :
          (s : State) → TrailRestores s l.fn.self → length s.trail.items ≡ l.trail
          → l.trail ≤ length l.self.trail.items;
    }

abbrev pub decreases-loop-self : goal.decreases-loop-self
decreases-loop-self l = length l.self.trail.items
