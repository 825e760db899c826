-- Definitions as they are kept, by number.
use Rattle.std.specs.Prelude.{ℕ, List, Option, Some, None, slice_get}
use Rattle.mc_program.specs.Programs.{TypeTerm}
use Rattle.mc_program.specs.PlainPrograms.{plain_type}
use Rattle.mc_program.specs.declared.ty.Ty.{Ty}

abbrev pub plain_body : Option (Option Ty) → Option TypeTerm
plain_body None = None
plain_body (Some None) = None
plain_body (Some (Some t)) = Some (plain_type t)

-- what the type of a number is defined as
abbrev pub held : List (Option Ty) → ℕ → Option TypeTerm
held definitions u = plain_body (slice_get definitions u)
