-- Clauses whose names are resolved, as plain data.
use Rattle.std.specs.Prelude.{◌≡◌, List, [], ◌∷◌, map, length}
use Rattle.mc_program.specs.Programs.{TypeTerm, ClauseForm}
use Rattle.mc_program.specs.PlainPrograms.{plain_type, plain_clause}
use Rattle.mc_program.specs.declared.program.Resolved.{Resolved}
use Rattle.mc_accepted.specs.Normal.{normal_goal}
use Rattle.mc_accepted.specs.NormalTypes.{TypedClause, normal_types}

abbrev pub clause_of : Resolved → ClauseForm
clause_of r = plain_clause r.clause

-- with the number of its own variables, and all its variables' types and names
abbrev pub typed_clause : Resolved → TypedClause
typed_clause r =
    record {
      clause = clause_of r;
      variables = r.clause.vars;
      types = map plain_type r.var_types;
      names = r.var_names;
    }

-- A clause has a type for each of its own variables and each that its normal goal makes, and so does
-- each of several; the first list has the types of their predicate.
abbrev pub AsManyTypes : List TypeTerm → TypedClause → Type 0
AsManyTypes types c =
    length (normal_types types (c ∷ []))
    ≡ (normal_goal (length types) (c.clause ∷ [])).variables

abbrev pub EachAsManyTypes : List TypeTerm → List TypedClause → Type 0
EachAsManyTypes types [] = Unit {0}
EachAsManyTypes types (c ∷ cs) = AsManyTypes types c × EachAsManyTypes types cs
