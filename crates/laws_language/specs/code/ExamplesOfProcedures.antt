-- Examples of procedures that are accepted, and of some that are not.
use Rattle.std.specs.Prelude.{ℕ, zero, suc, List, [], ◌∷◌, nat_eq, true, false, Some, None, codes, if◌then◌else◌}
use Rattle.mc_program.specs.Values.{Val}
use Rattle.mc_program.specs.Programs.{TypeTerm, variable_type, union_type, no_types, type_then, Constructor, Predicate, Source}
use Rattle.mc_program.specs.PlainPrograms.{no_symbol, no_pred}
use Rattle.mc_model.specs.Insts.{Listed, free, ground, unique, dead, bound, Graph}
use Rattle.mc_model.specs.Outcomes.{Outcome, fails}
use Rattle.mc_model.specs.Scheduled.{for_symbol, Node, node, Conj, Disj, Switch, Assign, Build, Take, Call, nodes, no_arms, arm_then, Procedure}
use Rattle.mc_model.specs.Good.{System}
use Rattle.mc_accepted.specs.ProperTypes.{Parameters}
use Rattle.mc_accepted.specs.Fits.{Fits}
use Rattle.mc_accepted.specs.Accepted.{Accepted, AcceptedProcedure}
use Rattle.laws_language.specs.code.Examples.{nil, cell, det, nondet}
use Rattle.laws_language.specs.code.ExamplesOfGoals.{append, append_clauses}
use Rattle.mc_program.specs.declared.builtin.Builtin.{Builtin}
use Rattle.mc_source.specs.declared.det.Det.{Det}
use Rattle.mc_source.specs.declared.det.Most.TheVariants.{Zero}

-- `:- type list(T) ---> [] ; [T | list(T)].`
abbrev pub item_type : TypeTerm
item_type = variable_type 0

abbrev pub list_type : TypeTerm
list_type = union_type 0 (type_then item_type no_types)

abbrev pub list_symbols : ℕ → Constructor
list_symbols zero =
    record {
      name = record { module_name = codes "list"; bytes = codes "[]"; arity = 0 };
      of_type = 0;
      args = [];
    }
list_symbols (suc zero) =
    record {
      name = record { module_name = codes "list"; bytes = codes "[|]"; arity = 2 };
      of_type = 0;
      args = item_type ∷ list_type ∷ [];
    }
list_symbols (suc (suc s)) = record { name = no_symbol.name; of_type = 1; args = [] }

-- lists alone are a type, of one parameter
abbrev pub list_parameters : Parameters
list_parameters u = if nat_eq u 0 then Some 1 else None

abbrev pub append_pred : Predicate
append_pred =
    record {
      name = record { module_name = codes "list"; bytes = codes "append"; arity = 3 };
      types = list_type ∷ list_type ∷ list_type ∷ [];
      clauses = append_clauses;
      builtin = None;
    }

abbrev pub list_source : Source
list_source =
    record {
      symbols = list_symbols;
      symbols_of = λ u. if nat_eq u 0 then nil ∷ cell ∷ [] else [];
      preds = λ k. if nat_eq k append then append_pred else no_pred;
    }

-- the insts: `bound([])`, `bound([ground | ground])` and `bound([] ; [ground | ground])` are 4, 5
-- and 6
abbrev pub nil_listed : Listed
nil_listed = record { name = codes "[]"; arity = 0; args = [] }

abbrev pub cell_listed : Listed
cell_listed = record { name = codes "[|]"; arity = 2; args = 1 ∷ 1 ∷ [] }

abbrev pub list_insts : Graph
list_insts zero = free
list_insts (suc zero) = ground
list_insts (suc (suc zero)) = unique
list_insts (suc (suc (suc zero))) = dead
list_insts (suc (suc (suc (suc zero)))) = bound (nil_listed ∷ [])
list_insts (suc (suc (suc (suc (suc zero))))) = bound (cell_listed ∷ [])
list_insts (suc (suc (suc (suc (suc (suc i)))))) = bound (nil_listed ∷ cell_listed ∷ [])

-- `append(in, in, out) is det`: in the first arm the list is empty, and in the second the call
-- stands before the construction that needs its result
abbrev pub empty_arm : Node
empty_arm =
    node
    (Conj (nodes (
    node (Take 0 nil []) ((0, 4) ∷ []) det true
    ∷ node (Assign 2 1) ((2, 1) ∷ []) det false
    ∷ []
    )))
    ((0, 4) ∷ (2, 1) ∷ [])
    det
    false

abbrev pub cell_arm : Node
cell_arm =
    node
    (Conj (nodes (
    node (Take 0 cell (3 ∷ 4 ∷ [])) ((0, 5) ∷ (3, 1) ∷ (4, 1) ∷ []) det false
    ∷ node (Call 0 (4 ∷ 1 ∷ 5 ∷ []) [] false) ((5, 1) ∷ []) det false
    ∷ node (Build 2 cell (3 ∷ 5 ∷ [])) ((2, 5) ∷ []) det false
    ∷ []
    )))
    ((0, 5) ∷ (2, 5) ∷ (3, 1) ∷ (4, 1) ∷ (5, 1) ∷ [])
    det
    false

-- the two in the order of the clauses, before they are a switch
abbrev pub append_goals : Node
append_goals =
    node (Disj (nodes (empty_arm ∷ cell_arm ∷ []))) ((0, 6) ∷ (2, 1) ∷ []) det false

-- the switch, with the determinism that is kept of it
abbrev pub append_body : Det → Node
append_body kept =
    node
    (Switch 0 (arm_then (for_symbol nil) empty_arm (arm_then (for_symbol cell) cell_arm no_arms)))
    ((0, 6) ∷ (2, 1) ∷ []) kept false

-- the procedure, with its declared determinism and the one that is kept of its body
abbrev pub append_procedure : (declared kept : Det) → Procedure
append_procedure declared kept =
    record {
      pred = append;
      head = 0 ∷ 1 ∷ 2 ∷ [];
      first = 1 ∷ 1 ∷ 0 ∷ [];
      last = 1 ∷ 1 ∷ 1 ∷ [];
      body = append_body kept;
      det = declared;
      var_types = list_type ∷ list_type ∷ list_type ∷ item_type ∷ list_type ∷ list_type ∷ [];
    }

abbrev pub nothing_done : Builtin → List Val → Outcome
nothing_done op vs = fails

abbrev pub append_system : System
append_system =
    record {
      world = record { source = list_source; outcome = nothing_done };
      count = 1;
      procs = λ k. append_procedure det det;
      insts = list_insts;
    }

abbrev pub failure : Det
failure = record { can_fail = true; most = Zero; committed = false }

-- append is accepted, in a system that fits; not so a procedure whose kept determinism isn't that of
-- the table, or whose declared one doesn't allow it
abbrev pub AppendIsAccepted : Type 0
AppendIsAccepted =
    Accepted append_system
    × Fits append_system list_parameters
    × (AcceptedProcedure append_system (append_procedure det nondet) → ⊥)
    × (AcceptedProcedure append_system (append_procedure failure det) → ⊥)
