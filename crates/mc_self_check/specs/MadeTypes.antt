-- Where a program has the library, its predicates that have builtins have their types, and what
-- these builtins make is of those types. (Mercury Language Reference Manual: the library; Types.)
use Rattle.std.specs.Prelude.{◌≡◌, ℕ, [], ◌∷◌, Some}
use Rattle.mc_program.specs.Programs.{char_type, string_type, Source}
use Rattle.mc_program.specs.PlainPrograms.{plain_program}
use Rattle.mc_program.specs.declared.builtin.Builtin.{Builtin}
use Rattle.mc_program.specs.declared.builtin.Builtin.TheVariants as B
use Rattle.mc_program.specs.declared.program.Program.{Program}
use Rattle.mc_model.specs.Builtins.{Library}
use Rattle.mc_model.specs.Types.{argument_types}
use Rattle.mc_model.specs.Worlds.{library_of}
use Rattle.mc_accepted.specs.BuiltinTypes.{Library_types, list_of, result_of, HasBuiltins}
use Rattle.mc_self_check.specs.HasLibrary.{HasLibrary}

-- the symbols of lists are constructors of lists of characters
pub record MakesLists (P : Source) (L : Library) (K : Library_types) : Type 0 where
  pub nil : argument_types P L.nil (list_of K char_type) ≡ Some []
  pub cons :
      argument_types P L.cons (list_of K char_type)
      ≡ Some (char_type ∷ list_of K char_type ∷ [])

-- the symbols of what reading gives are constructors of that type, at strings
pub record MakesResults (P : Source) (L : Library) (K : Library_types) : Type 0 where
  pub ok : argument_types P L.ok (result_of K string_type) ≡ Some (string_type ∷ [])
  pub eof : argument_types P L.eof (result_of K string_type) ≡ Some []

abbrev pub MakesTypes : Source → Library → Library_types → Builtin → Type 0
MakesTypes P L K B.ToCharList = MakesLists P L K
MakesTypes P L K B.ReadLine = MakesResults P L K
MakesTypes P L K op = Unit {0}

-- what is made by the builtins that predicates have
abbrev pub AllMakeTypes : Source → Library → Library_types → Type 0
AllMakeTypes P L K =
    (p : ℕ) (op : Builtin) → (P.preds p).builtin ≡ Some op → MakesTypes P L K op

abbrev pub LibraryMakesTypes : Type 0
LibraryMakesTypes =
    (P : Program)
    → HasLibrary P
    → (K : Library_types)
    × HasBuiltins (plain_program P) K × AllMakeTypes (plain_program P) (library_of P) K
