-- The inst definitions of a program as they are kept.
use Rattle.std.specs.Prelude.{◌≡◌, ℕ, length}
use Rattle.mc_components.specs.Components.{steps, NumbersComponents}
use Rattle.mc_names.specs.Linked.{Linked}
use Rattle.mc_inst_table.specs.declared.rings.InstDefinitions.{InstDefinitions}
use Rattle.mc_inst_table.specs.Rules.{inst_bodies}
use Rattle.mc_inst_table.specs.code.Ends.{IsFull, head_at, AreHeads, AreSettled, AreNeeds, bodies_of}
use Rattle.mc_inst_table.specs.code.Insides.{AreInside, AreClosed}
use Rattle.mc_inst_table.specs.code.Passed.{passed}

-- These are the inst definitions of a program, with what each needs, where it leads, what it puts into
-- constructors, and the graph of what it passes itself.
pub record AreDefinitions (l : Linked) (s : InstDefinitions) : Type 0 where
  pub bodies : (d : ℕ) → bodies_of s.bodies d ≡ inst_bodies l d
  pub full : (d : ℕ) → IsFull (bodies_of s.bodies) (bodies_of s.bodies d)
  pub needs : AreNeeds (bodies_of s.bodies) s.needs.items
  pub heads : AreHeads (bodies_of s.bodies) s.heads
  pub settled : AreSettled (bodies_of s.bodies) s.heads
  pub inside : AreInside (bodies_of s.bodies) s.inside
  pub closed : AreClosed (bodies_of s.bodies) (head_at s.heads) s.inside
  pub passes : (d : ℕ) → steps s.graph d ≡ passed (head_at s.heads) (bodies_of s.bodies d)
  pub numbered : length s.components ≡ length s.graph
  pub alike : NumbersComponents s.graph s.components
