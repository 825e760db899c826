-- The mode definitions as they are kept, with the graph of what each leads to.
use Rattle.std.specs.Prelude.{◌≡◌, ℕ, List, [], ◌∷◌, length, Option, Some, None}
use Rattle.mc_components.specs.Components.{steps, NumbersComponents}
use Rattle.mc_names.specs.Linked.{Linked}
use Rattle.mc_inst_table.specs.declared.mode_rings.ModeRings.{ModeRings}
use Rattle.mc_inst_table.specs.Rules.{mode_named}

-- one number at most, as a row
abbrev pub one_or_none : Option ℕ → List ℕ
one_or_none None = []
one_or_none (Some k) = k ∷ []

-- These are the mode definitions of a program, with the components of their graph.
pub record AreModeRings (l : Linked) (r : ModeRings) : Type 0 where
  pub leads : (k : ℕ) → steps r.graph k ≡ one_or_none (mode_named l k)
  pub numbered : length r.components ≡ length r.graph
  pub alike : NumbersComponents r.graph r.components
