use Rattle.std.proofs.Common.{◌≡◌, ℕ, ◌<◌, get_or}
use Rattle.mc_program.specs.declared.ty.Ty.{Ty}
use Rattle.mc_mode_state.proofs.nodes.Nodes.place_of.Given as goal

abbrev pub invariant-loop-place : goal.invariant-loop-place
invariant-loop-place l = (k : ℕ) (t : Ty) → k < l.place → get_or l.self.types.items k t ≡ l.ty → ⊥
