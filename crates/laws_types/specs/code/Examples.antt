-- Examples of clauses with one typing, with two and with none, and of assignments that are live at
-- one moment.
use Rattle.std.specs.Prelude.{◌≡◌, ℕ, zero, suc, List, [], ◌∷◌, codes, None, Some}
use Rattle.mc_program.specs.Programs.{TypeTerm, variable_type, union_type, no_types, Constructor, Predicate, Source, variable, made, no_expressions, Equal, And, no_formulas, formula_then}
use Rattle.mc_program.specs.PlainPrograms.{no_name}
use Rattle.mc_accepted.specs.ProperTypes.{Parameters}
use Rattle.mc_accepted.specs.Resolving.{Unresolved, any_variable, any_name, no_terms, term_then, Unresolved_clause, equation, all_of, no_goals, goal_then, Resolves, WellTyped, FirstTwo, TooMany, assignments_limit, resolved}
use Rattle.mc_source.specs.declared.name.Candidate.{Candidate}
use Rattle.mc_source.specs.declared.name.Candidate.TheVariants.{Con}

-- `:- type a ---> nil.` and `:- type b ---> nil.`
abbrev pub nil_of : (type : ℕ) → Constructor
nil_of u =
    record {
      name = record { module_name = codes "o"; bytes = codes "nil"; arity = 0 };
      of_type = u;
      args = [];
    }

abbrev pub of_types : List TypeTerm → Predicate
of_types ts = record { name = no_name; types = ts; clauses = []; builtin = None }

-- `:- pred amb.`, `:- pred pa(a).` and `:- pred any(T).`
abbrev pub declared : ℕ → Predicate
declared zero = of_types []
declared (suc zero) = of_types (union_type 0 no_types ∷ [])
declared (suc (suc p)) = of_types (variable_type 0 ∷ [])

abbrev pub two_types : Source
two_types = record { symbols = nil_of; symbols_of = λ u. u ∷ []; preds = declared }

-- no type has parameters
abbrev pub plain : Parameters
plain u = Some 0

abbrev pub candidates : List Candidate
candidates = Con 0 ∷ Con 1 ∷ []

-- an occurrence of `nil`, which may stand for either constructor
abbrev pub some_nil : Unresolved
some_nil = any_name candidates no_terms

abbrev pub over : ℕ → Unresolved_clause
over p =
    record { pred = p; head = term_then some_nil no_terms; body = all_of no_goals }

-- `amb :- X = nil, X = nil.`
abbrev pub amb : Unresolved_clause
amb =
    record {
      pred = 0;
      head = no_terms;
      body =
          all_of
          (goal_then (equation (any_variable 0) some_nil)
          (goal_then (equation (any_variable 0) some_nil) no_goals));
    }

-- `pa(nil).` is well typed. `amb` is not: two resolutions type it, and no others do. Nor is
-- `any(nil).`, whose argument is of every type: no resolution types it.
abbrev pub Typings : Type 0
Typings =
    WellTyped two_types plain (over 1)
    × FirstTwo two_types plain amb (Con 0 ∷ Con 0 ∷ []) (Con 1 ∷ Con 1 ∷ [])
    × (WellTyped two_types plain amb → ⊥)
    × ((picks : List Candidate) → Resolves two_types plain (over 2) picks → ⊥)

-- In `pa(nil).` two assignments are live once `nil` has been walked, and one is where the head is
-- closed: so a limit of one is passed, and a limit of two isn't, nor is the limit of the language.
abbrev pub LiveAtOnce : Type 0
LiveAtOnce =
    TooMany two_types plain 1 (over 1)
    × (TooMany two_types plain 2 (over 1) → ⊥)
    × (TooMany two_types plain assignments_limit (over 1) → ⊥)

-- the picks of `amb` go to its names in order
abbrev pub ResolvedClauses : Type 0
ResolvedClauses =
    (resolved amb (Con 0 ∷ Con 1 ∷ [])
    ≡ record {
      head = [];
      body =
          And
          (formula_then (Equal (variable 0) (made 0 no_expressions))
          (formula_then (Equal (variable 0) (made 1 no_expressions)) no_formulas));
    })
    × ((resolved (over 1) (Con 1 ∷ [])).head ≡ made 1 no_expressions ∷ [])
    × ((resolved (over 1) (Con 1 ∷ [])).head ≡ made 0 no_expressions ∷ [] → ⊥)
