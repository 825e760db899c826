-- Examples of the most general types of a clause.
use Rattle.std.specs.Prelude.{[], ◌∷◌, codes, Some}
use Rattle.mc_program.specs.Programs.{TypeTerm, int_type, variable_type, union_type, no_types, type_then, Constructor, Source, ClauseForm, variable, made, no_expressions, Equal, And, no_formulas, formula_then}
use Rattle.mc_accepted.specs.ProperTypes.{Parameters}
use Rattle.mc_accepted.specs.NormalTypes.{TypedClause}
use Rattle.mc_accepted.specs.MostGeneral.{MostGeneral, QueryTypes}
use Rattle.laws_types.specs.code.Examples.{of_types}

-- `:- type list(T) ---> [].`
abbrev pub empty_list : Constructor
empty_list =
    record {
      name = record { module_name = codes "list"; bytes = codes "[]"; arity = 0 };
      of_type = 0;
      args = [];
    }

abbrev pub lists : Source
lists =
    record {
      symbols = λ s. empty_list;
      symbols_of = λ u. 0 ∷ [];
      preds = λ p. of_types [];
    }

abbrev pub one_parameter : Parameters
one_parameter u = Some 1

abbrev pub list_of : TypeTerm → TypeTerm
list_of t = union_type 0 (type_then t no_types)

-- `q :- X = [].`
abbrev pub clause : ClauseForm
clause =
    record {
      head = [];
      body = And (formula_then (Equal (variable 0) (made 0 no_expressions)) no_formulas);
    }

abbrev pub typed_as : TypeTerm → TypedClause
typed_as t = record { clause = clause; variables = 1; types = t ∷ []; names = codes "X" ∷ [] }

-- X is a list of any type, which is the first type variable: there are no rigid ones. Lists of
-- integers would do too, but are not the most general; nor has the type variable another number.
abbrev pub ListsOfAny : Type 0
ListsOfAny =
    MostGeneral lists one_parameter [] (typed_as (list_of (variable_type 0)))
    × (MostGeneral lists one_parameter [] (typed_as (list_of int_type)) → ⊥)
    × (MostGeneral lists one_parameter [] (typed_as (list_of (variable_type 1))) → ⊥)

-- The query `X = []` has an argument of that type.
abbrev pub AskedList : Type 0
AskedList = QueryTypes lists one_parameter (λ v. codes "X") clause.body (list_of (variable_type 0) ∷ [])
