-- The table of what the things of a program are declared with. (Mercury Language Reference Manual:
-- Types.)
use Rattle.std.specs.Prelude.{◌≡◌, suc, List, length, map, slice_get}
use Rattle.mc_program.specs.PlainPrograms.{plain_program}
use Rattle.mc_program.specs.declared.program.Program.{Program}
use Rattle.mc_program.specs.declared.program.TypeDef.{TypeDef}
use Rattle.mc_accepted.specs.ProperTypes.{Parameters}
use Rattle.mc_typecheck.specs.Ties.{Meaning}
use Rattle.mc_typecheck.specs.Walked.{IsThere, Shows}
use Rattle.mc_typecheck.specs.declared.table.Signatures.{Signatures}

-- how many parameters a type has, by its number
abbrev pub parameters_in : List TypeDef → Parameters
parameters_in types u = slice_get (map (λ (t : TypeDef). t.params) types) u

-- The table has each constructor, function and predicate of the program, and behind the predicates
-- one without arguments, that of a query.
pub record IsTable (program : Program) (table : Signatures) : Type 0 where
  pub symbols : table.symbols ≡ length program.symbols
  pub preds : table.preds ≡ suc (length program.preds)
  pub shows :
      (m : Meaning)
      → IsThere table m → Shows (plain_program program) (parameters_in program.types) table m
