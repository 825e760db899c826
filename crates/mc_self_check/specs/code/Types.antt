-- The types of the library's declarations, as code has them.
use Rattle.mc_program.specs.Programs.{TypeTerm, int_type, char_type, string_type, state_type, variable_type}
use Rattle.mc_accepted.specs.BuiltinTypes.{Library_types, list_of, result_of}
use Rattle.mc_self_check.specs.declared.library_fit_types.SimpleType.{SimpleType}
use Rattle.mc_self_check.specs.declared.library_fit_types.SimpleType.TheVariants as S
use Rattle.mc_self_check.specs.declared.library_fit_types.LibraryType.{LibraryType}
use Rattle.mc_self_check.specs.declared.library_fit_types.LibraryType.TheVariants as T
use Rattle.mc_self_check.specs.declared.library_fit_types.LibraryTypes.{LibraryTypes}

abbrev pub plain_types : LibraryTypes → Library_types
plain_types types = record { list = types.list; result = types.result }

abbrev pub simple_type : SimpleType → TypeTerm
simple_type S.Int = int_type
simple_type S.Char = char_type
simple_type S.Str = string_type
simple_type S.State = state_type
simple_type S.Item = variable_type 0

abbrev pub type_of : Library_types → LibraryType → TypeTerm
type_of K (T.Simple t) = simple_type t
type_of K (T.ListOf t) = list_of K (simple_type t)
type_of K (T.ResultOf t) = result_of K (simple_type t)
