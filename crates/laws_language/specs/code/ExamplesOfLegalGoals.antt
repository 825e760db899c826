-- Procedures with scopes, builtins and switches of less common forms, all of which are accepted.
use Rattle.std.specs.Prelude.{◌≡◌, ◌≢◌, ℕ, zero, suc, List, [], ◌∷◌, map, nat_eq, true, false, pos, Some, None, codes, if◌then◌else◌}
use Rattle.mc_program.specs.Values.{int}
use Rattle.mc_program.specs.Programs.{int_type, made, no_expressions, variable, Equal, If, Not, Exists, ClauseForm, Predicate}
use Rattle.mc_model.specs.Scheduled as S
use Rattle.mc_model.specs.Scheduled.{Node, node, for_symbol, nodes, no_arms, arm_then, Procedure}
use Rattle.mc_model.specs.Good.{System}
use Rattle.mc_accepted.specs.Scope.{clause_scoped, ClauseHasScopes}
use Rattle.mc_accepted.specs.Ordered.{variables_of_node, free_in_node}
use Rattle.mc_accepted.specs.Accepted.{AcceptedProcedure}
use Rattle.laws_language.specs.code.Examples.{nil, cell, det, semidet, nondet, ints, numbered, Answers, started, plenty}
use Rattle.laws_language.specs.code.ExamplesOfGoals.{call_of, both, either, only, plus, sum, number}
use Rattle.laws_language.specs.code.ExamplesOfBranches.{is_cell, nothing}
use Rattle.laws_language.specs.code.ExamplesOfLists.{member_of}
use Rattle.laws_language.specs.code.ExamplesOfProcedures.{item_type, list_type, list_source, list_insts, nothing_done}
use Rattle.laws_language.specs.code.ExamplesOfRefusals.{pred_of, builtin_pred, is, three_ints}
use Rattle.mc_program.specs.declared.builtin.Builtin.TheVariants as B

-- `:- type list(T) ---> [] ; [T | list(T)].`, with these predicates and this procedure for each
abbrev pub lists_with : (ℕ → Predicate) → Procedure → System
lists_with preds p =
    record {
      world =
          record { source = record list_source { preds = preds }; outcome = nothing_done };
      count = 1;
      procs = λ k. p;
      insts = list_insts;
    }

abbrev pub is_constant : ℕ → ℕ → Node
is_constant x n = node (S.Const x (int (pos n))) ((x, 1) ∷ []) det false

-- `has(L, Y) :- ( if member(X, L) then Y = 1 else Y = 2 ).`: X is the condition's own, so the
-- condition is pruned to its first answer
abbrev pub has_clauses : List ClauseForm
has_clauses =
    only (variable 0 ∷ variable 1 ∷ []) (If (2 ∷ []) (call_of 0 (2 ∷ 0 ∷ [])) (is 1 1) (is 1 2))

abbrev pub has_preds : ℕ → Predicate
has_preds zero = pred_of (codes "member") 2 (item_type ∷ list_type ∷ []) []
has_preds (suc k) = pred_of (codes "has") 2 (list_type ∷ int_type ∷ []) has_clauses

abbrev pub has_condition : Node
has_condition = node (S.Call 0 (2 ∷ 0 ∷ []) [] false) ((2, 1) ∷ []) semidet true

abbrev pub has_procedure : Procedure
has_procedure =
    record {
      pred = 1;
      head = 0 ∷ 1 ∷ [];
      first = 1 ∷ 0 ∷ [];
      last = 1 ∷ 1 ∷ [];
      body =
          node (S.Ite (2 ∷ []) has_condition (is_constant 1 1) (is_constant 1 2)) ((1, 1) ∷ []) det
          false;
      det = det;
      var_types = list_type ∷ int_type ∷ item_type ∷ [];
    }

-- so it answers once for a list of two members
abbrev pub ConditionAnswersOnce : Type 0
ConditionAnswersOnce =
    AcceptedProcedure (lists_with has_preds member_of) has_procedure
    × Answers
    (started (member_of ∷ has_procedure ∷ []) plenty plenty 1 (Some (ints (1 ∷ 2 ∷ [])) ∷ None ∷ []))
    ((ints (1 ∷ 2 ∷ []) ∷ int (pos 1) ∷ []) ∷ [])

-- `differs(Q, P, D) :- Q \= P + D.`: the sum stands as the fresh variable 3, which is tested
abbrev pub differs_preds : ℕ → Predicate
differs_preds k =
    if nat_eq k plus then builtin_pred (codes "+") 2 three_ints B.IntPlus
    else pred_of (codes "differs") 3 three_ints
    (only (variable 0 ∷ variable 1 ∷ variable 2 ∷ [])
    (Not (Equal (variable 0) (sum (variable 1) (variable 2)))))

abbrev pub differs_inside : Node
differs_inside =
    node
    (S.Conj (nodes (
    node (S.Apply B.IntPlus (1 ∷ 2 ∷ []) (3 ∷ [])) ((3, 1) ∷ []) det false
    ∷ node (S.Test 3 0) [] semidet true
    ∷ []
    )))
    ((3, 1) ∷ []) semidet true

abbrev pub differs_procedure : Procedure
differs_procedure =
    record {
      pred = 0;
      head = 0 ∷ 1 ∷ 2 ∷ [];
      first = 1 ∷ 1 ∷ 1 ∷ [];
      last = 1 ∷ 1 ∷ 1 ∷ [];
      body = node (S.Not differs_inside) [] semidet true;
      det = semidet;
      var_types = int_type ∷ three_ints;
    }

abbrev pub BuiltinAlone : Type 0
BuiltinAlone = AcceptedProcedure (lists_with differs_preds differs_procedure) differs_procedure

-- `len(L, N) :- ( L = [], N = 0 ; L = [H | R], len(R, M), N = M + 1 ).`: the variable that is made
-- for 1 is quantified around the second disjunct, and the switch looks through that
abbrev pub len_clauses : List ClauseForm
len_clauses =
    only (variable 0 ∷ variable 1 ∷ [])
    (either (both (Equal (variable 0) (made nil no_expressions)) (is 1 0))
    (both (is_cell 0 2 3)
    (both (call_of 0 (3 ∷ 4 ∷ [])) (Equal (variable 1) (sum (variable 4) (number 1))))))

abbrev pub len_preds : ℕ → Predicate
len_preds k =
    if nat_eq k plus then builtin_pred (codes "+") 2 three_ints B.IntPlus
    else pred_of (codes "len") 2 (list_type ∷ int_type ∷ []) len_clauses

abbrev pub len_empty : Node
len_empty =
    node (S.Conj (nodes (node (S.Take 0 nil []) ((0, 4) ∷ []) det true ∷ is_constant 1 0 ∷ [])))
    ((0, 4) ∷ (1, 1) ∷ []) det false

abbrev pub len_changes : List (ℕ × ℕ)
len_changes = (0, 5) ∷ (1, 1) ∷ (2, 1) ∷ (3, 1) ∷ (4, 1) ∷ (5, 1) ∷ []

abbrev pub len_goals : Node
len_goals =
    node
    (S.Conj (nodes (
    node (S.Take 0 cell (2 ∷ 3 ∷ [])) ((0, 5) ∷ (2, 1) ∷ (3, 1) ∷ []) det false
    ∷ node (S.Call 0 (3 ∷ 4 ∷ []) [] false) ((4, 1) ∷ []) det false
    ∷ is_constant 5 1
    ∷ node (S.Apply B.IntPlus (4 ∷ 5 ∷ []) (1 ∷ [])) ((1, 1) ∷ []) det false
    ∷ []
    )))
    len_changes det false

abbrev pub len_cell : Node
len_cell = node (S.Exists (5 ∷ []) len_goals) len_changes det false

abbrev pub len_procedure : Procedure
len_procedure =
    record {
      pred = 0;
      head = 0 ∷ 1 ∷ [];
      first = 1 ∷ 0 ∷ [];
      last = 1 ∷ 1 ∷ [];
      body =
          node (S.Switch 0 (arm_then (for_symbol nil) len_empty (arm_then (for_symbol cell) len_cell no_arms)))
          ((0, 6) ∷ (1, 1) ∷ []) det false;
      det = det;
      var_types = list_type ∷ int_type ∷ item_type ∷ list_type ∷ int_type ∷ int_type ∷ [];
    }

abbrev pub SwitchThroughSome : Type 0
SwitchThroughSome = AcceptedProcedure (lists_with len_preds len_procedure) len_procedure

-- The variables of scheduled goals that no part of them quantifies: not 5 of the second arm, and not
-- 2 of the condition, though it stands in the goal.
abbrev pub FreeVariables : Type 0
FreeVariables =
    (free_in_node len_cell ≡ 0 ∷ 2 ∷ 3 ∷ 3 ∷ 4 ∷ 4 ∷ 1 ∷ [])
    × (free_in_node has_procedure.body ≡ 0 ∷ 1 ∷ 1 ∷ [])
    × (variables_of_node has_procedure.body ≡ 2 ∷ 2 ∷ 0 ∷ 1 ∷ 1 ∷ [])
    × (free_in_node has_procedure.body ≢ variables_of_node has_procedure.body)

-- `r :- some [X] ( X = 1 ; true ).`: X is bound in one branch alone, but doesn't occur outside
abbrev pub some_preds : ℕ → Predicate
some_preds k = pred_of (codes "r") 0 [] (only [] (Exists (0 ∷ []) (either (is 0 1) nothing)))

abbrev pub some_branches : Node
some_branches =
    node
    (S.Disj
    (nodes
    (node (S.Const 0 (int (pos 1))) ((0, 1) ∷ []) det true ∷ node (S.Conj (nodes [])) [] det true
    ∷ [])))
    [] det true

abbrev pub some_procedure : Procedure
some_procedure =
    record {
      pred = 0;
      head = [];
      first = [];
      last = [];
      body = node (S.Exists (0 ∷ []) some_branches) [] det true;
      det = det;
      var_types = int_type ∷ [];
    }

abbrev pub BranchesUnderSome : Type 0
BranchesUnderSome = AcceptedProcedure (lists_with some_preds some_procedure) some_procedure

-- `s :- not ( not p(X) ; q(X) ).`: each negation quantifies its own X, so that s is true where p is
-- true of something and q of nothing
abbrev pub negations_written : ClauseForm
negations_written =
    record {
      head = [];
      body = Not (either (Not (call_of 0 (0 ∷ []))) (call_of 1 (0 ∷ [])));
    }

abbrev pub negations_clause : ClauseForm
negations_clause =
    record {
      head = [];
      body =
          Not
          (Exists (0 ∷ [])
          (either (Not (Exists (0 ∷ []) (call_of 0 (0 ∷ [])))) (call_of 1 (0 ∷ []))));
    }

abbrev pub negations_preds : ℕ → Predicate
negations_preds zero = pred_of (codes "p") 1 (int_type ∷ []) []
negations_preds (suc zero) = pred_of (codes "q") 1 (int_type ∷ []) []
negations_preds (suc (suc k)) = pred_of (codes "s") 0 [] (negations_clause ∷ [])

-- the facts of p, or of q, each about a number
abbrev pub facts_of : ℕ → List ℕ → Procedure
facts_of k ns =
    record {
      pred = k;
      head = 0 ∷ [];
      first = 0 ∷ [];
      last = 1 ∷ [];
      body = node (S.Disj (nodes (map (is_constant 0) ns))) ((0, 1) ∷ []) nondet false;
      det = nondet;
      var_types = int_type ∷ [];
    }

-- a call that binds X, which doesn't occur outside the body
abbrev pub found_by : ℕ → Node
found_by k = node (S.Call k (0 ∷ []) [] false) ((0, 1) ∷ []) semidet true

abbrev pub found_by_none : Node
found_by_none =
    node (S.Not (node (S.Exists (0 ∷ []) (found_by 0)) ((0, 1) ∷ []) semidet true)) [] semidet true

abbrev pub negations_procedure : Procedure
negations_procedure =
    record {
      pred = 2;
      head = [];
      first = [];
      last = [];
      body =
          node
          (S.Not
          (node
          (S.Exists (0 ∷ [])
          (node (S.Disj (nodes (found_by_none ∷ found_by 1 ∷ []))) [] semidet true))
          [] semidet true))
          [] semidet true;
      det = semidet;
      var_types = int_type ∷ [];
    }

-- `p(1). p(2).`, and what q is true of
abbrev pub negations_program : List ℕ → List Procedure
negations_program ns =
    facts_of 0 (1 ∷ 2 ∷ []) ∷ facts_of 1 ns ∷ negations_procedure ∷ []

abbrev pub negations_system : System
negations_system =
    record {
      world =
          record {
            source = record list_source { preds = negations_preds };
            outcome = nothing_done;
          };
      count = 3;
      procs = numbered (negations_program (3 ∷ []));
      insts = list_insts;
    }

-- it is accepted, with the scopes that are written out; where q is true of nothing it answers once
abbrev pub NegationInNegation : Type 0
NegationInNegation =
    (clause_scoped negations_written ≡ negations_clause)
    × ClauseHasScopes negations_clause
    × AcceptedProcedure negations_system negations_procedure
    × Answers (started (negations_program (3 ∷ [])) plenty plenty 2 []) []
    × Answers (started (negations_program []) plenty plenty 2 []) ([] ∷ [])
