-- The goal of a query is typed: the query is typed as a clause without arguments, and then takes
-- the variables that it asks for as arguments. (Mercury Language Reference Manual: Types; that a
-- query is a predicate without a name is this project's profile.)
use Rattle.std.specs.Prelude.{ℕ, List, [], ◌∷◌, length}
use Rattle.mc_program.specs.Programs.{TypeTerm, Formula, Source}
use Rattle.mc_accepted.specs.ProperTypes.{Parameters}
use Rattle.mc_accepted.specs.NormalTypes.{TypedClause, query_clause}
use Rattle.mc_accepted.specs.MostGeneral.{QueryTypes}
use Rattle.mc_accepted.specs.Fits.{HeadsHave}
use Rattle.laws_types.specs.GoalTypes.{GoalIsTyped, forms_of}

-- a query's clause, whose variables and types are those of its goal
abbrev pub as_query : (names : ℕ → List ℕ) → Formula → TypedClause → TypedClause
as_query names g c =
    record {
      clause = query_clause names g;
      variables = c.variables;
      types = c.types;
      names = c.names;
    }

abbrev pub QueriesAreTyped : Type 0
QueriesAreTyped =
    (P : Source) (D : Parameters) (names : ℕ → List ℕ) (g : Formula) (types : List TypeTerm)
    (query : QueryTypes P D names g types)
    → HeadsHave (length types) (forms_of (as_query names g query.goal ∷ []))
    × GoalIsTyped P types (as_query names g query.goal ∷ [])
