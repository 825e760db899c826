-- The entries of a table, in order.
use Rattle.std.specs.Prelude.{List, [], ◌∷◌, ◌++◌, map}
use Rattle.mc_program.specs.Programs.{TypeTerm, int_type, char_type, string_type, variable_type}
use Rattle.mc_program.specs.PlainPrograms.{plain_type}
use Rattle.mc_program.specs.declared.program.Symbol.{Symbol}
use Rattle.mc_program.specs.declared.program.TypeDef.{TypeDef}
use Rattle.mc_program.specs.declared.program.Pred.{Pred}
use Rattle.mc_accepted.specs.Resolving.{declared_type}
use Rattle.mc_accepted.specs.MostGeneral.{rigid_count}
use Rattle.mc_typecheck.specs.Ties.{Declared}
use Rattle.mc_typecheck.specs.Tables.{parameters_in}

-- types whose variables are renamed apart at each use, and types whose variables are rigid
abbrev pub renamed : List TypeTerm → Declared
renamed types = record { vars = rigid_count types; types = types }

abbrev pub rigid : List TypeTerm → Declared
rigid types = record { vars = 0; types = types }

abbrev pub none_declared : Declared
none_declared = rigid []

-- a number, a text, an equation and a character
abbrev pub basics : List Declared
basics =
    rigid (int_type ∷ [])
    ∷ rigid (string_type ∷ [])
    ∷ record { vars = 1; types = variable_type 0 ∷ variable_type 0 ∷ [] }
    ∷ rigid (char_type ∷ [])
    ∷ []

abbrev pub constructor_in : List TypeDef → Symbol → Declared
constructor_in types s =
    renamed (map plain_type s.args ++ declared_type s.of_type (parameters_in types s.of_type) ∷ [])

abbrev pub constructors_in : List TypeDef → List Symbol → List Declared
constructors_in types symbols = map (constructor_in types) symbols

abbrev pub renamed_in : List Pred → List Declared
renamed_in preds = map (λ (p : Pred). renamed (map plain_type p.types)) preds

abbrev pub rigid_in : List Pred → List Declared
rigid_in preds = map (λ (p : Pred). rigid (map plain_type p.types)) preds
