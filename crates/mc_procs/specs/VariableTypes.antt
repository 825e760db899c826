-- Types of variables, by their list. (Mercury Language Reference Manual: Types.)
use Rattle.std.specs.Prelude.{ℕ, List, map, get_or}
use Rattle.mc_program.specs.Programs.{TypeTerm, variable_type}
use Rattle.mc_program.specs.PlainPrograms.{plain_type}
use Rattle.mc_program.specs.declared.ty.Ty.{Ty}

-- a variable that has no type there is of a type variable
abbrev pub type_in : List Ty → ℕ → TypeTerm
type_in types x = get_or (map plain_type types) x (variable_type x)
