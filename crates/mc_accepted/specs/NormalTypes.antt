-- The types and names of a normal goal's variables, and the clause that a query is. (Mercury
-- Language Reference Manual: Types; Syntax, implicit quantification; this project's profile: a query
-- is a predicate without a name.)
use Rattle.std.specs.Prelude.{ℕ, Bool, true, nat_eq, List, [], ◌∷◌, ◌++◌, map, drop, get_or, if◌then◌else◌}
use Rattle.mc_program.specs.Programs.{TypeTerm, variable_type, variable, ClauseForm, Formula}
use Rattle.mc_model.specs.Lists.{once}
use Rattle.mc_accepted.specs.Scope.{free_of, quantified, scoped}
use Rattle.mc_accepted.specs.Normal.{other_variables}

-- A clause whose names are resolved, with the number of its own variables, the types of these and,
-- behind them, of the variables that its normal goal makes, in the order in which they are made, and
-- its own variables' names in the source; one that has none there has the empty name.
pub record TypedClause : Type 0 where
  pub clause : ClauseForm
  pub variables : ℕ
  pub types : List TypeTerm
  pub names : List (List ℕ)

-- those of a clause's variables that are no head arguments, then those that are made
abbrev pub clause_types : TypedClause → List TypeTerm
clause_types c =
    map (λ v. get_or c.types v (variable_type v)) (other_variables c.clause)
    ++ drop c.variables c.types

abbrev pub clause_names : TypedClause → List (List ℕ)
clause_names c =
    map (λ v. get_or c.names v []) (other_variables c.clause)
    ++ map (λ t. []) (drop c.variables c.types)

abbrev pub clauses_types : List TypedClause → List TypeTerm
clauses_types [] = []
clauses_types (c ∷ cs) = clause_types c ++ clauses_types cs

abbrev pub clauses_names : List TypedClause → List (List ℕ)
clauses_names [] = []
clauses_names (c ∷ cs) = clause_names c ++ clauses_names cs

-- the head variables have the predicate's types, and no names
abbrev pub normal_types : (predicate : List TypeTerm) → List TypedClause → List TypeTerm
normal_types ts cs = ts ++ clauses_types cs

abbrev pub normal_names : (predicate : List TypeTerm) → List TypedClause → List (List ℕ)
normal_names ts cs = map (λ t. []) ts ++ clauses_names cs

-- whether a name begins with an underscore, as that of a variable does whose value nobody asks for
abbrev pub is_unasked : List ℕ → Bool
is_unasked [] = true
is_unasked (b ∷ bs) = nat_eq b 95

abbrev pub asked_of : (names : ℕ → List ℕ) → List ℕ → List ℕ
asked_of names [] = []
asked_of names (x ∷ xs) = if is_unasked (names x) then asked_of names xs else x ∷ asked_of names xs

abbrev pub unasked_of : (names : ℕ → List ℕ) → List ℕ → List ℕ
unasked_of names [] = []
unasked_of names (x ∷ xs) =
    if is_unasked (names x) then x ∷ unasked_of names xs else unasked_of names xs

-- the variables of a query's goal that it doesn't quantify, each once, in the order in which they
-- occur first
abbrev pub free_variables : Formula → List ℕ
free_variables g = once (free_of (scoped [] g))

-- A query's clause: its arguments are the free variables whose names don't begin with an underscore;
-- its scopes are taken with these outside, and the other free ones are then quantified around it.
abbrev pub query_clause : (names : ℕ → List ℕ) → Formula → ClauseForm
query_clause names g =
    record {
      head = map variable (asked_of names (free_variables g));
      body =
          quantified (unasked_of names (free_variables g))
          (scoped (asked_of names (free_variables g)) g);
    }
