-- The program that runs, of what a program declares, its typed clauses and its query. (Mercury
-- Language Reference Manual: Types, equivalence types; Syntax, implicit quantification; the query is
-- this project's.)
use Rattle.std.specs.Prelude.{◌≡◌, ℕ, suc, List, [], ◌∷◌, ◌++◌, map, length, get_or, Option, Some, None, false}
use Rattle.std.specs.Option.{option_map}
use Rattle.mc_program.specs.Programs.{TypeTerm, variable_type, Predicate, Source}
use Rattle.mc_program.specs.PlainPrograms.{plain_symbol, plain_pred, plain_program, no_pred}
use Rattle.mc_program.specs.declared.program.Resolved.{Resolved}
use Rattle.mc_accepted.specs.NormalTypes.{TypedClause, asked_of, free_variables}
use Rattle.mc_names.specs.Linked.{Defined, Linked}
use Rattle.mc_type_table.specs.Expanded.{after_rounds}
use Rattle.mc_type_table.specs.Rules.{definitions}
use Rattle.mc_type_table.specs.Table.{table}
use Rattle.mc_declarations.specs.Declarations.{declarations, constructors_from, predicate_of}
use Rattle.mc_goals.specs.Resolved.{typed_clause}
use Rattle.mc_core_program.specs.Whole.{of_number, name_in, whole_types, whole_clause, whole_query, each_with_clauses}
use Rattle.mc_accepted.specs.NormalGoals.{HasNormalGoals}
use Rattle.mc_core_program.specs.WholeProgramGoals.{HasTypedGoals}
use Rattle.mc_core_program.specs.declared.whole_program_program.WholeProgram.{WholeProgram}

-- a typed clause with the number of its predicate
abbrev pub numbered_clause : ℕ × Resolved → ℕ × TypedClause
numbered_clause p = (p.0, typed_clause p.1)

-- the variables that a query asks for
abbrev pub asked : TypedClause → List ℕ
asked c = asked_of (name_in c) (free_variables c.clause.body)

abbrev pub asked_names : Option TypedClause → List (List ℕ)
asked_names None = []
asked_names (Some c) = map (name_in c) (asked c)

-- what stands of a query behind what predicates have, where there is a query
abbrev pub behind : {A : Type 0} → (TypedClause → A) → Option TypedClause → List A
behind of None = []
behind of (Some c) = of c ∷ []

module _ (l : Linked) where
  -- what all types are defined as, whoever sees it, where no equivalence is left
  abbrev pub final_definitions : ℕ → Option TypeTerm
  final_definitions u = after_rounds (length l.types) (definitions l) u

  -- the type of a variable of a query, where it has one
  abbrev pub query_type : TypedClause → ℕ → TypeTerm
  query_type c v = get_or (whole_types final_definitions c) v (variable_type v)

  -- A query is a predicate without a name: its arguments are the variables that it asks for. (Its
  -- clause is put there with all others'.)
  abbrev pub query_predicate : TypedClause → Predicate
  query_predicate c =
      record {
        name = record { module_name = []; bytes = []; arity = length (asked c) };
        types = map (query_type c) (asked c);
        clauses = [];
        builtin = None;
      }

  abbrev pub query_clauses : TypedClause → List TypedClause
  query_clauses c = whole_query final_definitions c ∷ []

  -- the clauses of the predicate of a number as they run, in their order
  abbrev pub clauses_of : List (ℕ × TypedClause) → (number : ℕ) → List TypedClause
  clauses_of clauses p = map (whole_clause final_definitions) (of_number p clauses)

  -- those of predicates that are numbered from a number on
  abbrev pub clauses_from :
      List (ℕ × TypedClause) → (number : ℕ) → List Defined → List (List TypedClause)
  clauses_from clauses p [] = []
  clauses_from clauses p (d ∷ ds) = clauses_of clauses p ∷ clauses_from clauses (suc p) ds

  -- the predicates before they have their clauses, the query's behind the others
  abbrev pub bare_predicates : (query : Option TypedClause) → List Predicate
  bare_predicates query =
      map (predicate_of l (definitions l)) l.preds ++ behind query_predicate query

  -- typed clauses by the numbers of their predicates, and the query
  module _ (clauses : List (ℕ × TypedClause)) (query : Option TypedClause) where
    -- the clauses of each predicate, the query's behind the others
    abbrev pub all_clauses : List (List TypedClause)
    all_clauses = clauses_from clauses 0 l.preds ++ behind query_clauses query

    -- the predicates with their clauses
    abbrev pub all_predicates : List Predicate
    all_predicates =
        each_with_clauses (bare_predicates query)
        (map (map (λ (c : TypedClause). c.clause)) all_clauses)

    -- THE PROGRAM THAT RUNS: the types and constructors that are declared, and the predicates.
    abbrev pub whole_source : Source
    whole_source =
        record {
          symbols = (declarations l (definitions l)).symbols;
          symbols_of = (declarations l (definitions l)).symbols_of;
          preds = λ k. get_or all_predicates k no_pred;
        }

-- This is the program that runs, with the normal goals of its predicates, which of them are exported
-- (the query's isn't), and the names of the variables that the query asks for.
pub record IsWhole
    (l : Linked) (clauses : List (ℕ × TypedClause)) (query : Option TypedClause)
    (whole : WholeProgram)
    : Type 0 where
  pub is : plain_program whole.program ≡ whole_source l clauses query
  pub types : whole.program.types ≡ table l
  pub symbols :
      map plain_symbol whole.program.symbols ≡ constructors_from l (definitions l) 0 l.types
  pub preds : map plain_pred whole.program.preds ≡ all_predicates l clauses query
  pub goals : HasNormalGoals whole.program whole.goals.items
  pub typed :
      HasTypedGoals (bare_predicates l query) (all_clauses l clauses query)
      whole.goals.items
  pub exported :
      whole.exported.items
      ≡ map (λ (d : Defined). d.exported) l.preds ++ behind (λ c. false) query
  pub variables : whole.variables ≡ asked_names query
