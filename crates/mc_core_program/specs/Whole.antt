-- The program that runs: its clauses with their scopes written out and their variables' types without
-- equivalences, each at its predicate, and the query as a predicate behind the others. (Mercury
-- Language Reference Manual: Syntax, implicit quantification; Types, equivalence types; the query is
-- this project's.)
use Rattle.std.specs.Prelude.{ℕ, nat_eq, List, [], ◌∷◌, map, get_or, Option, if◌then◌else◌}
use Rattle.mc_program.specs.Programs.{TypeTerm, ClauseForm, Predicate}
use Rattle.mc_accepted.specs.Scope.{clause_scoped}
use Rattle.mc_accepted.specs.NormalTypes.{TypedClause, query_clause}
use Rattle.mc_type_table.specs.Expanded.{replaced}

-- those of a number, in their order
abbrev pub of_number : {A : Type 0} → ℕ → List (ℕ × A) → List A
of_number p [] = []
of_number p ((q, a) ∷ rest) = if nat_eq q p then a ∷ of_number p rest else of_number p rest

-- the names of a clause's variables; one without a name has the empty one
abbrev pub name_in : TypedClause → ℕ → List ℕ
name_in c v = get_or c.names v []

-- what types are defined as, where no equivalence is left
module _ (definitions : ℕ → Option TypeTerm) where
  abbrev pub whole_types : TypedClause → List TypeTerm
  whole_types c = map (replaced definitions) c.types

  abbrev pub whole_clause : TypedClause → TypedClause
  whole_clause c =
      record {
        clause = clause_scoped c.clause;
        variables = c.variables;
        types = whole_types c;
        names = c.names;
      }

  -- a query's, which is typed as a clause without arguments
  abbrev pub whole_query : TypedClause → TypedClause
  whole_query c =
      record {
        clause = query_clause (name_in c) c.clause.body;
        variables = c.variables;
        types = whole_types c;
        names = c.names;
      }

-- predicates with their clauses, by number
abbrev pub with_clauses : Predicate → List ClauseForm → Predicate
with_clauses p cs =
    record { name = p.name; types = p.types; clauses = cs; builtin = p.builtin }

abbrev pub each_with_clauses : List Predicate → List (List ClauseForm) → List Predicate
each_with_clauses [] css = []
each_with_clauses (p ∷ ps) [] = with_clauses p [] ∷ each_with_clauses ps []
each_with_clauses (p ∷ ps) (cs ∷ css) = with_clauses p cs ∷ each_with_clauses ps css
