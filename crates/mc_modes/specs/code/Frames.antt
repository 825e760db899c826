-- Variables that count among what occurs outside, or no more.
use Rattle.std.specs.Prelude.{◌≡◌, ℕ, ◌+◌, List, length, get_or}
use Rattle.mc_accepted.specs.Ordered.{times_in}
use Rattle.mc_mode_state.specs.declared.state.State.{State}

-- the second state differs from the first in what occurs outside alone
pub record Frame (s t : State) : Type 0 where
  pub insts : t.insts ≡ s.insts
  pub trail : t.trail ≡ s.trail
  pub types : t.types ≡ s.types
  pub nodes : t.nodes ≡ s.nodes
  pub len : length t.outside.items ≡ length s.outside.items

pub record Entered (vs : List ℕ) (s t : State) : Type 0 where
  pub frame : Frame s t
  pub counts : (x : ℕ) → get_or t.outside.items x 0 ≡ get_or s.outside.items x 0 + times_in x vs

pub record Left (vs : List ℕ) (s t : State) : Type 0 where
  pub frame : Frame s t
  pub counts : (x : ℕ) → get_or t.outside.items x 0 + times_in x vs ≡ get_or s.outside.items x 0
