-- That a program has the library as far as its builtins go: the predicates that have builtins are
-- declared with the names and the types that the language gives them, and so are the constructors of
-- what these make. Of the library's clauses it says nothing.
-- (Mercury Language Reference Manual: the library; Types, discriminated unions.)
use Rattle.std.specs.Prelude.{◌≡◌, ◌<◌, ℕ, List, [], ◌∷◌, Some, length}
use Rattle.mc_program.specs.Programs.{TypeTerm, variable_type}
use Rattle.mc_program.specs.PlainPrograms.{plain_program}
use Rattle.mc_program.specs.declared.builtin.Builtin.{Builtin}
use Rattle.mc_program.specs.declared.builtin.Builtin.TheVariants as B
use Rattle.mc_program.specs.declared.program.Program.{Program}
use Rattle.mc_model.specs.Builtins.{Library}
use Rattle.mc_model.specs.Lists.{In}
use Rattle.mc_model.specs.Worlds.{library_of}
use Rattle.mc_accepted.specs.BuiltinTypes.{Library_types, list_of, HasBuiltins}

-- a symbol is a constructor of union type u, which lists it, over arguments of these types
pub record IsConstructor (P : Program) (symbol u : ℕ) (types : List TypeTerm) : Type 0 where
  pub there : symbol < length P.symbols
  pub of_type : ((plain_program P).symbols symbol).of_type ≡ u
  pub listed : In symbol ((plain_program P).symbols_of u)
  pub args : ((plain_program P).symbols symbol).args ≡ types

-- the one parameter of the library's types
abbrev pub item : TypeTerm
item = variable_type 0

-- a list is empty, or an item before a list of items
pub record HasLists (P : Program) (L : Library) (K : Library_types) : Type 0 where
  pub nil : IsConstructor P L.nil K.list []
  pub cons : IsConstructor P L.cons K.list (item ∷ list_of K item ∷ [])

-- reading gives an item, or tells the end
pub record HasResults (P : Program) (L : Library) (K : Library_types) : Type 0 where
  pub ok : IsConstructor P L.ok K.result (item ∷ [])
  pub eof : IsConstructor P L.eof K.result []

-- the constructors of what a builtin makes are declared
abbrev pub HasMade : Program → Library → Library_types → Builtin → Type 0
HasMade P L K B.ToCharList = HasLists P L K
HasMade P L K B.ReadLine = HasResults P L K
HasMade P L K op = Unit {0}

-- that of the builtins that predicates have
abbrev pub HasAllMade : Program → Library → Library_types → Type 0
HasAllMade P L K =
    (p : ℕ) (op : Builtin) → ((plain_program P).preds p).builtin ≡ Some op → HasMade P L K op

abbrev pub HasLibrary : Program → Type 0
HasLibrary P =
    (K : Library_types)
    × HasBuiltins (plain_program P) K × HasAllMade P (library_of P) K
