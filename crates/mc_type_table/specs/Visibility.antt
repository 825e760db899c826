-- What a module sees of the definitions of types (the Mercury manual: The module system, abstract
-- types).
use Rattle.std.specs.Prelude.{ℕ, Bool, false, nat_eq, ◌||◌, Option, Some, None, slice_get}
use Rattle.mc_program.specs.Programs.{TypeTerm}
use Rattle.mc_names.specs.Linked.{Defined, Linked, defining_module}
use Rattle.mc_type_table.specs.Expanded.{in_sight}
use Rattle.mc_type_table.specs.Rules.{definitions}

abbrev pub sees : Linked → (own : ℕ) → Option Defined → Bool
sees l own None = false
sees l own (Some d) = nat_eq own (defining_module l d) || d.shown

-- Whether the module of a number sees what a type is defined as: its own module does, and others do
-- where an interface defines it.
abbrev pub sees_definition : Linked → (own : ℕ) → ℕ → Bool
sees_definition l own u = sees l own (slice_get l.types u)

-- The equivalences that a module sees. A type that is defined out of its sight is one of its own
-- there.
abbrev pub definitions_seen : Linked → (own : ℕ) → ℕ → Option TypeTerm
definitions_seen l own u = in_sight (sees_definition l own) (definitions l) u
