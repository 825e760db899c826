-- Definitions of types of which some are hidden.
use Rattle.std.specs.Prelude.{ℕ, Bool, false, not, List, Option, get_or}
use Rattle.mc_program.specs.Programs.{TypeTerm}
use Rattle.mc_names.specs.Linked.{Linked}
use Rattle.mc_type_table.specs.Expanded.{in_sight}
use Rattle.mc_type_table.specs.Rules.{definitions}

-- whether the definition of a type is hidden; that of a number past the row isn't
abbrev pub is_hidden : (hidden : List Bool) → ℕ → Bool
is_hidden hidden u = get_or hidden u false

-- the equivalences of a program that aren't hidden
abbrev pub not_hidden : Linked → (hidden : List Bool) → ℕ → Option TypeTerm
not_hidden l hidden u = in_sight (λ k. not (is_hidden hidden k)) (definitions l) u
