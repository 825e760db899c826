-- Examples of procedures with an if-then-else and with a negation that are accepted, and of two
-- that are not.
use Rattle.std.specs.Prelude.{ℕ, zero, suc, List, [], ◌∷◌, None, true, false, codes}
use Rattle.mc_program.specs.Programs.{TypeTerm, variable, Formula, Equal, And, If, Not, Exists, ClauseForm, Predicate, Source}
use Rattle.mc_program.specs.PlainPrograms.{formulas, no_pred}
use Rattle.mc_model.specs.Scheduled as S
use Rattle.mc_model.specs.Scheduled.{Node, node, Ite, Assign, Take, Procedure}
use Rattle.mc_model.specs.Good.{System}
use Rattle.mc_accepted.specs.Fits.{FitsProcedure}
use Rattle.mc_accepted.specs.Accepted.{Accepted, AcceptedProcedure}
use Rattle.laws_language.specs.code.Examples.{cell, det, semidet}
use Rattle.laws_language.specs.code.ExamplesOfGoals.{list_cell, only}
use Rattle.laws_language.specs.code.ExamplesOfProcedures.{list_parameters, item_type, list_type, list_source, list_insts, nothing_done}
use Rattle.mc_source.specs.declared.det.Det.{Det}

-- a list has a first element and a rest
abbrev pub is_cell : (list first rest : ℕ) → Formula
is_cell l x r = Equal (variable l) (list_cell (variable x) (variable r))

abbrev pub equal : ℕ → ℕ → Formula
equal x y = Equal (variable x) (variable y)

abbrev pub nothing : Formula
nothing = And (formulas [])

-- `first_or(L, D, Y) :- ( if L = [X | Xs] then Y = X else Y = D ).`
abbrev pub first_or_clauses : List ClauseForm
first_or_clauses =
    only (variable 0 ∷ variable 1 ∷ variable 2 ∷ [])
    (If (3 ∷ 4 ∷ []) (is_cell 0 3 4) (equal 2 3) (equal 2 1))

-- `is_empty(L) :- not L = [X | Xs].`
abbrev pub is_empty_clauses : List ClauseForm
is_empty_clauses = only (variable 0 ∷ []) (Not (Exists (1 ∷ 2 ∷ []) (is_cell 0 1 2)))

-- `binding(L, D, Y) :- ( if L = [Y | Xs] then true else Y = D ).`
abbrev pub binding_clauses : List ClauseForm
binding_clauses =
    only (variable 0 ∷ variable 1 ∷ variable 2 ∷ [])
    (If (3 ∷ []) (is_cell 0 2 3) nothing (equal 2 1))

-- `missing(L, Y) :- ( if L = [X | Xs] then Y = X else true ).`
abbrev pub missing_clauses : List ClauseForm
missing_clauses =
    only (variable 0 ∷ variable 1 ∷ []) (If (2 ∷ 3 ∷ []) (is_cell 0 2 3) (equal 1 2) nothing)

abbrev pub list_pred : (name : List ℕ) → (arity : ℕ) → List TypeTerm → List ClauseForm → Predicate
list_pred name arity types clauses =
    record {
      name = record { module_name = codes "list"; bytes = name; arity = arity };
      types = types;
      clauses = clauses;
      builtin = None;
    }

abbrev pub branch_preds : ℕ → Predicate
branch_preds zero =
    list_pred (codes "first_or") 3 (list_type ∷ item_type ∷ item_type ∷ []) first_or_clauses
branch_preds (suc zero) = list_pred (codes "is_empty") 1 (list_type ∷ []) is_empty_clauses
branch_preds (suc (suc zero)) =
    list_pred (codes "binding") 3 (list_type ∷ item_type ∷ item_type ∷ []) binding_clauses
branch_preds (suc (suc (suc zero))) =
    list_pred (codes "missing") 2 (list_type ∷ item_type ∷ []) missing_clauses
branch_preds (suc (suc (suc (suc k)))) = no_pred

-- `first_or(in, in, out) is det`: the condition takes the list apart, and both branches bind Y
abbrev pub first_condition : Node
first_condition = node (Take 0 cell (3 ∷ 4 ∷ [])) ((0, 5) ∷ (3, 1) ∷ (4, 1) ∷ []) semidet false

abbrev pub first_then : Node
first_then = node (Assign 2 3) ((2, 1) ∷ []) det false

abbrev pub first_else : Node
first_else = node (Assign 2 1) ((2, 1) ∷ []) det false

abbrev pub first_or_procedure : Procedure
first_or_procedure =
    record {
      pred = 0;
      head = 0 ∷ 1 ∷ 2 ∷ [];
      first = 1 ∷ 1 ∷ 0 ∷ [];
      last = 1 ∷ 1 ∷ 1 ∷ [];
      body = node (Ite (3 ∷ 4 ∷ []) first_condition first_then first_else) ((2, 1) ∷ []) det false;
      det = det;
      var_types = list_type ∷ item_type ∷ item_type ∷ item_type ∷ list_type ∷ [];
    }

-- `is_empty(in) is semidet`: nothing outside is bound, so each goal is pruned
abbrev pub taken : Node
taken = node (Take 0 cell (1 ∷ 2 ∷ [])) ((0, 5) ∷ (1, 1) ∷ (2, 1) ∷ []) semidet true

abbrev pub some_taken : Node
some_taken = node (S.Exists (1 ∷ 2 ∷ []) taken) ((0, 5) ∷ (1, 1) ∷ (2, 1) ∷ []) semidet true

abbrev pub is_empty_procedure : Procedure
is_empty_procedure =
    record {
      pred = 1;
      head = 0 ∷ [];
      first = 1 ∷ [];
      last = 1 ∷ [];
      body = node (S.Not some_taken) [] semidet true;
      det = semidet;
      var_types = list_type ∷ item_type ∷ list_type ∷ [];
    }

-- `binding(in, in, out)` and `missing(in, out)`, with any body and determinism
abbrev pub binding_procedure : Node → Det → Procedure
binding_procedure body d =
    record {
      pred = 2;
      head = 0 ∷ 1 ∷ 2 ∷ [];
      first = 1 ∷ 1 ∷ 0 ∷ [];
      last = 1 ∷ 1 ∷ 1 ∷ [];
      body = body;
      det = d;
      var_types = list_type ∷ item_type ∷ item_type ∷ list_type ∷ [];
    }

abbrev pub missing_procedure : Node → Det → Procedure
missing_procedure body d =
    record {
      pred = 3;
      head = 0 ∷ 1 ∷ [];
      first = 1 ∷ 0 ∷ [];
      last = 1 ∷ 1 ∷ [];
      body = body;
      det = d;
      var_types = list_type ∷ item_type ∷ item_type ∷ list_type ∷ [];
    }

abbrev pub branch_procedures : ℕ → Procedure
branch_procedures zero = first_or_procedure
branch_procedures (suc k) = is_empty_procedure

abbrev pub branch_source : Source
branch_source = record list_source { preds = branch_preds }

abbrev pub branch_system : System
branch_system =
    record {
      world = record { source = branch_source; outcome = nothing_done };
      count = 2;
      procs = branch_procedures;
      insts = list_insts;
    }

-- first_or and is_empty are accepted, and fit; no body is accepted where the condition binds a
-- variable that occurs outside it, or where one branch binds such a variable and the other doesn't
abbrev pub BranchesAreAccepted : Type 0
BranchesAreAccepted =
    Accepted branch_system
    × FitsProcedure branch_system list_parameters first_or_procedure
    × FitsProcedure branch_system list_parameters is_empty_procedure
    × ((body : Node) (d : Det) → AcceptedProcedure branch_system (binding_procedure body d) → ⊥)
    × ((body : Node) (d : Det) → AcceptedProcedure branch_system (missing_procedure body d) → ⊥)
