-- What the builtins do fits the types of their predicates and their determinisms. (Mercury Language
-- Reference Manual: the library.)
use Rattle.std.specs.Prelude.{◌≡◌, ℕ, ◌<◌, ◌^◌, List, [], ◌∷◌, Some, length}
use Rattle.mc_program.specs.Programs.{char_type, string_type, Source}
use Rattle.mc_program.specs.declared.builtin.Builtin.{Builtin}
use Rattle.mc_program.specs.declared.builtin.Builtin.TheVariants as B
use Rattle.mc_model.specs.Builtins.{Library, outcome}
use Rattle.mc_model.specs.Types.{argument_types}
use Rattle.mc_accepted.specs.BuiltinFits.{FitsBuiltins}
use Rattle.mc_accepted.specs.BuiltinTypes.{Library_types, list_of, result_of, HasBuiltins}

-- a predicate has this builtin
abbrev pub HasBuiltin : Source → Builtin → Type 0
HasBuiltin P op = (p : ℕ) × ((P.preds p).builtin ≡ Some op)

-- where a predicate's builtin makes them, the library's symbols are constructors of its types
pub record MakesTypes (P : Source) (L : Library) (K : Library_types) : Type 0 where
  pub nil : HasBuiltin P B.ToCharList → argument_types P L.nil (list_of K char_type) ≡ Some []
  pub cons :
      HasBuiltin P B.ToCharList
      → argument_types P L.cons (list_of K char_type)
      ≡ Some (char_type ∷ list_of K char_type ∷ [])
  pub ok :
      HasBuiltin P B.ReadLine
      → argument_types P L.ok (result_of K string_type) ≡ Some (string_type ∷ [])
  pub eof : HasBuiltin P B.ReadLine → argument_types P L.eof (result_of K string_type) ≡ Some []

-- where the predicates that have builtins, and what these make, have their types, over an input of
-- fewer than 2 ^ 64 bytes
abbrev pub BuiltinsFit : Type 0
BuiltinsFit =
    (P : Source) (L : Library) (K : Library_types) (input : List ℕ)
    → MakesTypes P L K → HasBuiltins P K → length input < 2 ^ 64
    → FitsBuiltins (record { source = P; outcome = outcome L input })
