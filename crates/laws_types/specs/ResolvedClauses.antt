-- A clause that one resolution types, and its most general types, in the module that it stands in,
-- is typed there also where the query's predicate is declared: what its names may mean is there
-- without the query. (Mercury Language Reference Manual: Types, overloading; The module system.)
use Rattle.std.specs.Prelude.{ℕ, ◌<◌, List, [], length, Option}
use Rattle.mc_term_data.specs.Plain.{PlainTerm}
use Rattle.mc_source.specs.declared.name.Candidate.{Candidate}
use Rattle.mc_program.specs.Programs.{TypeTerm, Source}
use Rattle.mc_accepted.specs.ProperTypes.{EachProper}
use Rattle.mc_accepted.specs.NormalTypes.{TypedClause}
use Rattle.mc_accepted.specs.Resolving.{Unresolved_clause, resolved, Resolves}
use Rattle.mc_accepted.specs.MostGeneral.{MostGeneral}
use Rattle.laws_made_types.specs.Known.{AllKnown, ClauseHasValues, ClauseHasNames}
use Rattle.laws_made_types.specs.MadeTypes.{AreVariableTypes}
use Rattle.mc_names.specs.Linked.{Linked}
use Rattle.mc_clauses.specs.Unresolved.{unresolved_clause, unresolved_query}
use Rattle.mc_declarations.specs.Declarations.{parameter_counts}
use Rattle.mc_declarations.specs.Proper.{declared_for}
use Rattle.laws_types.specs.WholeTypes.{seen_program, IsTypedIn}

-- the clause with a resolution and these types and names of its variables
abbrev pub typed_as :
    Unresolved_clause
    → (picks : List Candidate)
    → (vars : ℕ) → (types : List TypeTerm) → (names : List (List ℕ)) → TypedClause
typed_as clause picks vars types names =
    record {
      clause = resolved clause picks;
      variables = vars;
      types = types;
      names = names;
    }

-- What a check of a clause in a module says, and what clauses have by themselves: these picks type
-- it, these are the most general types of its variables, constructors that are picked are declared,
-- and its numbers and texts are values.
pub record IsResolvedIn
    (l : Linked) (own : ℕ) (clause : Unresolved_clause) (picks : List Candidate) (vars : ℕ)
    (types : List TypeTerm)
    : Type 0 where
  pub resolves : Resolves (declared_for l own) (parameter_counts l) clause picks
  pub general :
      AreVariableTypes (declared_for l own) (parameter_counts l) clause picks vars types
  pub known : AllKnown (declared_for l own) (parameter_counts l) picks
  pub values : (P : Source) → ClauseHasValues P clause
  pub named : ClauseHasNames vars clause
  pub proper : EachProper (parameter_counts l) types

abbrev pub ResolvedAreTypedIn : Type 0
ResolvedAreTypedIn =
    (l : Linked) (own number : ℕ) (t : PlainTerm) (picks : List Candidate) (vars : ℕ)
    (types : List TypeTerm) (names : List (List ℕ)) (query : Option TypedClause)
    → number < length l.preds
    → IsResolvedIn l own (unresolved_clause l own number t).clause picks vars types
    → IsTypedIn l query own number
    (typed_as (unresolved_clause l own number t).clause picks vars types names)

-- so does a query
abbrev pub ResolvedQueriesAreTyped : Type 0
ResolvedQueriesAreTyped =
    (l : Linked) (own : ℕ) (g : PlainTerm) (picks : List Candidate) (vars : ℕ)
    (types : List TypeTerm) (names : List (List ℕ)) (query : Option TypedClause)
    → IsResolvedIn l own (unresolved_query l own (length l.preds) g).clause picks vars types
    → MostGeneral (seen_program l query own) (parameter_counts l) []
    (typed_as (unresolved_query l own (length l.preds) g).clause picks vars types names)
