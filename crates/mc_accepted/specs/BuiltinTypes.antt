-- The names of builtins, and the types of their predicates. (Mercury Language Reference Manual: the
-- library.)
use Rattle.std.specs.Prelude.{◌≡◌, ℕ, List, [], ◌∷◌, Bool, true, false, Some, codes}
use Rattle.mc_program.specs.Programs.{TypeTerm, int_type, char_type, string_type, state_type, variable_type, union_type, no_types, type_then, FullName, Source}
use Rattle.mc_model.specs.Types.{argument_types}
use Rattle.mc_model.specs.Builtins.{Library}
use Rattle.mc_model.specs.Worlds.{library_name}
use Rattle.mc_program.specs.declared.builtin.Builtin.{Builtin}
use Rattle.mc_program.specs.declared.builtin.Builtin.TheVariants as B

-- what a builtin is declared as: its full name, and whether it is a function, whose arity counts
-- its arguments without the result
pub record Builtin_name : Type 0 where
  pub name : FullName
  pub is_function : Bool

abbrev pub function_of : (module_name bytes : List ℕ) → (arity : ℕ) → Builtin_name
function_of m n a = record { name = library_name m n a; is_function = true }

abbrev pub predicate_of : (module_name bytes : List ℕ) → (arity : ℕ) → Builtin_name
predicate_of m n a = record { name = library_name m n a; is_function = false }

abbrev pub builtin_name : Builtin → Builtin_name
builtin_name B.IntPlus = function_of (codes "int") (codes "+") 2
builtin_name B.IntMinus = function_of (codes "int") (codes "-") 2
builtin_name B.IntTimes = function_of (codes "int") (codes "*") 2
builtin_name B.IntQuotient = function_of (codes "int") (codes "//") 2
builtin_name B.IntDiv = function_of (codes "int") (codes "div") 2
builtin_name B.IntMod = function_of (codes "int") (codes "mod") 2
builtin_name B.IntRem = function_of (codes "int") (codes "rem") 2
builtin_name B.IntNegate = function_of (codes "int") (codes "-") 1
builtin_name B.IntLess = predicate_of (codes "int") (codes "<") 2
builtin_name B.IntGreater = predicate_of (codes "int") (codes ">") 2
builtin_name B.IntAtMost = predicate_of (codes "int") (codes "=<") 2
builtin_name B.IntAtLeast = predicate_of (codes "int") (codes ">=") 2
builtin_name B.StringJoin = function_of (codes "string") (codes "++") 2
builtin_name B.StringLength = function_of (codes "string") (codes "length") 1
builtin_name B.StringCodePoints = function_of (codes "string") (codes "count_code_points") 1
builtin_name B.IntToString = function_of (codes "string") (codes "int_to_string") 1
builtin_name B.CharToString = function_of (codes "string") (codes "char_to_string") 1
builtin_name B.ToCharList = function_of (codes "string") (codes "to_char_list") 1
builtin_name B.StringToInt = predicate_of (codes "string") (codes "to_int") 2
builtin_name B.CharToInt = function_of (codes "char") (codes "to_int") 1
builtin_name B.CharFromInt = predicate_of (codes "char") (codes "from_int") 2
builtin_name B.CharIsDigit = predicate_of (codes "char") (codes "is_digit") 1
builtin_name B.WriteString = predicate_of (codes "io") (codes "write_string") 3
builtin_name B.WriteChar = predicate_of (codes "io") (codes "write_char") 3
builtin_name B.WriteInt = predicate_of (codes "io") (codes "write_int") 3
builtin_name B.Write = predicate_of (codes "io") (codes "write") 3
builtin_name B.Nl = predicate_of (codes "io") (codes "nl") 2
builtin_name B.ReadLine = predicate_of (codes "io") (codes "read_line_as_string") 3
builtin_name B.Error = predicate_of (codes "require") (codes "error") 1

-- the numbers of the library's types of lists, and of what reading gives
pub record Library_types : Type 0 where
  pub list : ℕ
  pub result : ℕ

abbrev pub list_of : Library_types → TypeTerm → TypeTerm
list_of K t = union_type K.list (type_then t no_types)

abbrev pub result_of : Library_types → TypeTerm → TypeTerm
result_of K t = union_type K.result (type_then t no_types)

-- the library's symbols are constructors of those types
pub record Has_types (P : Source) (L : Library) (K : Library_types) : Type 0 where
  pub nil : argument_types P L.nil (list_of K char_type) ≡ Some []
  pub cons :
      argument_types P L.cons (list_of K char_type)
      ≡ Some (char_type ∷ list_of K char_type ∷ [])
  pub ok : argument_types P L.ok (result_of K string_type) ≡ Some (string_type ∷ [])
  pub eof : argument_types P L.eof (result_of K string_type) ≡ Some []

-- the types of a builtin's arguments; a function's last is its result's
abbrev pub builtin_types : Library_types → Builtin → List TypeTerm
builtin_types K B.IntPlus = int_type ∷ int_type ∷ int_type ∷ []
builtin_types K B.IntMinus = int_type ∷ int_type ∷ int_type ∷ []
builtin_types K B.IntTimes = int_type ∷ int_type ∷ int_type ∷ []
builtin_types K B.IntQuotient = int_type ∷ int_type ∷ int_type ∷ []
builtin_types K B.IntDiv = int_type ∷ int_type ∷ int_type ∷ []
builtin_types K B.IntMod = int_type ∷ int_type ∷ int_type ∷ []
builtin_types K B.IntRem = int_type ∷ int_type ∷ int_type ∷ []
builtin_types K B.IntNegate = int_type ∷ int_type ∷ []
builtin_types K B.IntLess = int_type ∷ int_type ∷ []
builtin_types K B.IntGreater = int_type ∷ int_type ∷ []
builtin_types K B.IntAtMost = int_type ∷ int_type ∷ []
builtin_types K B.IntAtLeast = int_type ∷ int_type ∷ []
builtin_types K B.StringJoin = string_type ∷ string_type ∷ string_type ∷ []
builtin_types K B.StringLength = string_type ∷ int_type ∷ []
builtin_types K B.StringCodePoints = string_type ∷ int_type ∷ []
builtin_types K B.IntToString = int_type ∷ string_type ∷ []
builtin_types K B.CharToString = char_type ∷ string_type ∷ []
builtin_types K B.ToCharList = string_type ∷ list_of K char_type ∷ []
builtin_types K B.StringToInt = string_type ∷ int_type ∷ []
builtin_types K B.CharToInt = char_type ∷ int_type ∷ []
builtin_types K B.CharFromInt = int_type ∷ char_type ∷ []
builtin_types K B.CharIsDigit = char_type ∷ []
builtin_types K B.WriteString = string_type ∷ state_type ∷ state_type ∷ []
builtin_types K B.WriteChar = char_type ∷ state_type ∷ state_type ∷ []
builtin_types K B.WriteInt = int_type ∷ state_type ∷ state_type ∷ []
builtin_types K B.Write = variable_type 0 ∷ state_type ∷ state_type ∷ []
builtin_types K B.Nl = state_type ∷ state_type ∷ []
builtin_types K B.ReadLine = result_of K string_type ∷ state_type ∷ state_type ∷ []
builtin_types K B.Error = string_type ∷ []

-- a predicate that has a builtin has that builtin's name and types
abbrev pub HasBuiltins : Source → Library_types → Type 0
HasBuiltins P K =
    (p : ℕ) (op : Builtin)
    → (P.preds p).builtin ≡ Some op
    → ((P.preds p).name ≡ (builtin_name op).name) × ((P.preds p).types ≡ builtin_types K op)
