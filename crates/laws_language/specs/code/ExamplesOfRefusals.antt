-- Programs that are refused, since their runs would not be good: each breaks one rule of accepted
-- procedures.
use Rattle.std.specs.Prelude.{◌≡◌, ℕ, zero, suc, List, [], ◌∷◌, nat_eq, replicate, Bool, true, false, pos, Some, None, codes, if◌then◌else◌}
use Rattle.mc_program.specs.Values.{Val, int, con, no_vals}
use Rattle.mc_program.specs.Programs.{TypeTerm, int_type, state_type, union_type, no_types, made, no_expressions, variable, Formula, Equal, Or, Exists, Not, Constructor, ClauseForm, Predicate, Source}
use Rattle.mc_program.specs.PlainPrograms.{formulas, no_symbol}
use Rattle.mc_model.specs.Types.{OfType}
use Rattle.mc_model.specs.Insts.{free, ground, unique, dead, bound, Graph}
use Rattle.mc_model.specs.Scheduled as S
use Rattle.mc_model.specs.Scheduled.{Node, node, for_symbol, nodes, no_arms, arm_then, Procedure}
use Rattle.mc_model.specs.Good.{System}
use Rattle.mc_accepted.specs.Accepted.{AcceptedProcedure}
use Rattle.laws_language.specs.code.Examples.{det, semidet, nondet, cc_nondet, goal, all_of}
use Rattle.laws_language.specs.code.ExamplesOfGoals.{call_of, both, only, number}
use Rattle.laws_language.specs.code.ExamplesOfProcedures.{nothing_done}
use Rattle.mc_program.specs.declared.builtin.Builtin.{Builtin}
use Rattle.mc_program.specs.declared.builtin.Builtin.TheVariants as B
use Rattle.mc_source.specs.declared.det.Det.{Det}
use Rattle.mc_source.specs.declared.det.Most.TheVariants.{Zero}

abbrev pub pred_of : (name : List ℕ) → (arity : ℕ) → List TypeTerm → List ClauseForm → Predicate
pred_of name arity types clauses =
    record {
      name = record { module_name = codes "m"; bytes = name; arity = arity };
      types = types;
      clauses = clauses;
      builtin = None;
    }

-- a predicate or function that is a builtin
abbrev pub builtin_pred : (name : List ℕ) → (arity : ℕ) → List TypeTerm → Builtin → Predicate
builtin_pred name arity types op =
    record {
      name = record { module_name = codes "m"; bytes = name; arity = arity };
      types = types;
      clauses = [];
      builtin = Some op;
    }

abbrev pub is : ℕ → ℕ → Formula
is x n = Equal (variable x) (number n)

-- `:- type t ---> a ; b.`, and the insts, of which `bound(a)` is 4
abbrev pub two_symbols : ℕ → Constructor
two_symbols zero =
    record {
      name = record { module_name = codes "m"; bytes = codes "a"; arity = 0 };
      of_type = 0;
      args = [];
    }
two_symbols (suc zero) =
    record {
      name = record { module_name = codes "m"; bytes = codes "b"; arity = 0 };
      of_type = 0;
      args = [];
    }
two_symbols (suc (suc s)) = no_symbol

abbrev pub source_of : (symbols : List ℕ) → (ℕ → Predicate) → Source
source_of ss preds =
    record { symbols = two_symbols; symbols_of = λ u. if nat_eq u 0 then ss else []; preds = preds }

abbrev pub two_type : TypeTerm
two_type = union_type 0 no_types

abbrev pub insts_with_a : Graph
insts_with_a zero = free
insts_with_a (suc zero) = ground
insts_with_a (suc (suc zero)) = unique
insts_with_a (suc (suc (suc zero))) = dead
insts_with_a (suc (suc (suc (suc i)))) =
    bound (record { name = codes "a"; arity = 0; args = [] } ∷ [])

abbrev pub system_of : Source → Procedure → System
system_of source p =
    record {
      world = record { source = source; outcome = nothing_done };
      count = 1;
      procs = λ k. p;
      insts = insts_with_a;
    }

-- `p(X) :- X = 1.` in the mode (out)
abbrev pub one_procedure : Det → Procedure
one_procedure d =
    record {
      pred = 0;
      head = 0 ∷ [];
      first = 0 ∷ [];
      last = 1 ∷ [];
      body = node (S.Const 0 (int (pos 1))) ((0, 1) ∷ []) det false;
      det = d;
      var_types = int_type ∷ [];
    }

abbrev pub one_system : Det → System
one_system d =
    system_of
    (source_of [] (λ k. pred_of (codes "p") 1 (int_type ∷ []) (only (variable 0 ∷ []) (is 0 1))))
    (one_procedure d)

abbrev pub committed_failure : Det
committed_failure = record { can_fail = true; most = Zero; committed = true }

-- it is accepted as cc_nondet, and not where it commits to answers that it cannot have
abbrev pub CommittedWithoutAnswers : Type 0
CommittedWithoutAnswers =
    AcceptedProcedure (one_system cc_nondet) (one_procedure cc_nondet)
    × (AcceptedProcedure (one_system committed_failure) (one_procedure committed_failure) → ⊥)

-- Of `:- type t ---> a.` the value `a` is the only one. A number past the symbols is no constructor
-- of it, though the record that stands there says so.
abbrev pub NumbersPastTheSymbols : Type 0
NumbersPastTheSymbols =
    OfType (source_of (0 ∷ []) (λ k. pred_of [] 0 [] [])) (con 0 no_vals) two_type
    × (OfType (source_of (0 ∷ []) (λ k. pred_of [] 0 [] [])) (con 7 no_vals) two_type → ⊥)
    × ((v : Val)
    → OfType (source_of (0 ∷ []) (λ k. pred_of [] 0 [] [])) v two_type → v ≡ con 0 no_vals)

-- `p(X, Y, Z) :- ( X + X = Y, X = X ), X + Y = Z.` in the mode (in, in, in), where the brackets are
-- a disjunction of one; 9 is the number of `+`
abbrev pub sum_clauses : List ClauseForm
sum_clauses =
    only (variable 0 ∷ variable 1 ∷ variable 2 ∷ [])
    (both
    (Or (formulas (both (call_of 9 (0 ∷ 0 ∷ 1 ∷ [])) (Equal (variable 0) (variable 0)) ∷ [])))
    (call_of 9 (0 ∷ 1 ∷ 2 ∷ [])))

abbrev pub three_ints : List TypeTerm
three_ints = int_type ∷ int_type ∷ int_type ∷ []

abbrev pub sum_preds : ℕ → Predicate
sum_preds k =
    if nat_eq k 9 then builtin_pred (codes "+") 2 three_ints B.IntPlus
    else pred_of (codes "p") 3 three_ints sum_clauses

abbrev pub tested : ℕ → ℕ → Node
tested x y = node (S.Test x y) [] semidet true

abbrev pub sum_of : (x y z : ℕ) → Node
sum_of x y z = node (S.Apply B.IntPlus (x ∷ y ∷ []) (z ∷ [])) ((z, 1) ∷ []) det false

-- the sum in brackets stands as the fresh variable 7, which is tested against Y; where no goal after
-- it has 7, the goals in brackets are pruned
abbrev pub bracket : (pruned : Bool) → Node
bracket pruned =
    node
    (S.Disj
    (nodes
    (node (S.Conj (nodes (sum_of 0 0 7 ∷ tested 7 1 ∷ tested 0 0 ∷ []))) ((7, 1) ∷ []) semidet
    pruned
    ∷ [])))
    [] semidet true

-- all variables are of type `int`; the sum of X and Y stands as this fresh variable, which is tested
-- against Z
abbrev pub sum_procedure : (pruned : Bool) → (fresh : ℕ) → Procedure
sum_procedure pruned fresh =
    record {
      pred = 0;
      head = 0 ∷ 1 ∷ 2 ∷ [];
      first = 1 ∷ 1 ∷ 1 ∷ [];
      last = 1 ∷ 1 ∷ 1 ∷ [];
      body =
          node (S.Conj (nodes (bracket pruned ∷ sum_of 0 1 fresh ∷ tested fresh 2 ∷ [])))
          ((fresh, 1) ∷ []) semidet true;
      det = semidet;
      var_types = replicate 8 int_type;
    }

abbrev pub sum_system : Procedure → System
sum_system = system_of (source_of [] sum_preds)

-- one fresh variable for both sums, and two
abbrev pub one_for_both : Procedure
one_for_both = sum_procedure false 7

abbrev pub one_for_each : Procedure
one_for_each = sum_procedure true 6

-- a fresh variable stands nowhere else
abbrev pub FreshVariableTwice : Type 0
FreshVariableTwice =
    (AcceptedProcedure (sum_system one_for_both) one_for_both → ⊥)
    × AcceptedProcedure (sum_system one_for_each) one_for_each

-- `main(!IO) :- X = a, ( X = a, nl(!IO) ; nl(!IO), X = b ).`; 9 is the number of `nl`
abbrev pub line : Formula
line = call_of 9 (0 ∷ 1 ∷ [])

abbrev pub is_symbol : ℕ → Formula
is_symbol s = Equal (variable 2) (made s no_expressions)

abbrev pub main_clauses : List ClauseForm
main_clauses =
    only (variable 0 ∷ variable 1 ∷ [])
    (both (is_symbol 0) (Or (formulas (both (is_symbol 0) line ∷ both line (is_symbol 1) ∷ []))))

abbrev pub two_states : List TypeTerm
two_states = state_type ∷ state_type ∷ []

abbrev pub main_preds : ℕ → Predicate
main_preds k =
    if nat_eq k 9 then builtin_pred (codes "nl") 2 two_states B.Nl
    else pred_of (codes "main") 2 two_states main_clauses

abbrev pub writes_line : Node
writes_line = node (S.Apply B.Nl (0 ∷ []) (1 ∷ [])) ((0, 3) ∷ (1, 2) ∷ []) det false

-- the second arm writes before it takes X apart
abbrev pub arm_a : Node
arm_a =
    node (S.Conj (nodes (node (S.Take 2 0 []) [] det true ∷ writes_line ∷ [])))
    ((0, 3) ∷ (1, 2) ∷ []) det false

abbrev pub erroneous : Det
erroneous = record { can_fail = false; most = Zero; committed = false }

abbrev pub arm_b : Node
arm_b =
    node (S.Conj (nodes (writes_line ∷ node (S.Take 2 1 []) [] erroneous false ∷ []))) [] erroneous
    false

abbrev pub main_switch : Node
main_switch =
    node (S.Switch 2 (arm_then (for_symbol 0) arm_a (arm_then (for_symbol 1) arm_b no_arms)))
    ((0, 3) ∷ (1, 2) ∷ []) det false

abbrev pub main_procedure : Procedure
main_procedure =
    record {
      pred = 0;
      head = 0 ∷ 1 ∷ [];
      first = 2 ∷ 0 ∷ [];
      last = 3 ∷ 2 ∷ [];
      body =
          node (S.Conj (nodes (node (S.Build 2 0 []) ((2, 4) ∷ []) det false ∷ main_switch ∷ [])))
          ((0, 3) ∷ (1, 2) ∷ (2, 4) ∷ []) det false;
      det = det;
      var_types = state_type ∷ state_type ∷ two_type ∷ [];
    }

abbrev pub SwitchBehindWriting : Type 0
SwitchBehindWriting =
    AcceptedProcedure (system_of (source_of (0 ∷ 1 ∷ []) main_preds) main_procedure) main_procedure
    → ⊥

-- `r :- all [X] p(X).` where the only mode of p is (out): the negation that `all` stands for binds
-- X, which its quantifier names
abbrev pub all_preds : ℕ → Predicate
all_preds zero = pred_of (codes "p") 1 (int_type ∷ []) []
all_preds (suc k) =
    pred_of (codes "r") 0 [] (only [] (Not (Exists (0 ∷ []) (Not (call_of 0 (0 ∷ []))))))

abbrev pub any_procedure : Procedure
any_procedure =
    record {
      pred = 0;
      head = 0 ∷ [];
      first = 0 ∷ [];
      last = 1 ∷ [];
      body = goal (all_of []);
      det = nondet;
      var_types = int_type ∷ [];
    }

abbrev pub all_procedure : Node → Det → Procedure
all_procedure body d =
    record {
      pred = 1;
      head = [];
      first = [];
      last = [];
      body = body;
      det = d;
      var_types = int_type ∷ [];
    }

-- so no body of it is accepted
abbrev pub AllBindsNothing : Type 0
AllBindsNothing =
    (body : Node) (d : Det)
    → AcceptedProcedure (system_of (source_of [] all_preds) any_procedure) (all_procedure body d) → ⊥
