-- What is asked of one predicate, and by which numbers of the library's types.
use Rattle.std.specs.Prelude.{◌≡◌, Some}
use Rattle.mc_program.specs.Programs.{Predicate}
use Rattle.mc_program.specs.PlainPrograms.{plain_program}
use Rattle.mc_program.specs.declared.builtin.Builtin.{Builtin}
use Rattle.mc_program.specs.declared.program.Program.{Program}
use Rattle.mc_model.specs.Builtins.{Library}
use Rattle.mc_accepted.specs.BuiltinTypes.{Library_types, builtin_name, builtin_types}
use Rattle.mc_self_check.specs.HasLibrary.{HasMade}

-- its name and types are those of a builtin, and the constructors of what that makes are declared
pub record FitsBuiltin (P : Program) (L : Library) (K : Library_types) (p : Predicate) (op : Builtin)
    : Type 0 where
  pub name : p.name ≡ (builtin_name op).name
  pub types : p.types ≡ builtin_types K op
  pub made : HasMade P L K op

-- so where it has a builtin
abbrev pub FitsLibrary : Program → Library → Library_types → Predicate → Type 0
FitsLibrary P L K p = (op : Builtin) → p.builtin ≡ Some op → FitsBuiltin P L K p op

-- the types of the constructors `[]` and `ok`, and number 0 where there is none
abbrev pub types_in : Program → Library → Library_types
types_in P L =
    record {
      list = ((plain_program P).symbols L.nil).of_type;
      result = ((plain_program P).symbols L.ok).of_type;
    }
