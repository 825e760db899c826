-- Clauses from their order to their determinisms: the goal in its order, with what it changes and
-- its pruned goals, in switch form, by the tables. Each group has an equation that doesn't hold.
use Rattle.std.specs.Prelude.{◌≡◌, ◌≢◌, ℕ, List, [], ◌∷◌, ◌++◌, map, filter, length, nat_eq, Option, Some, None, Bool, true, false, not, ◌&&◌, if◌then◌else◌}
use Rattle.mc_program.specs.Programs.{TypeTerm, int_type, union_type, no_types, variable, If, Not, ClauseForm}
use Rattle.mc_source.specs.Determinism.{Determinism, inferred, det, semidet, multi, nondet}
use Rattle.mc_model.specs.Lists.{from, is_in}
use Rattle.mc_model.specs.Stream.{is_bound}
use Rattle.mc_model.specs.Outcomes.{fails}
use Rattle.mc_model.specs.Scheduled as S
use Rattle.mc_model.specs.Scheduled.{Node, node, Scheduled, Nodes, no_nodes, node_then, Arms, no_arms, arm_then}
use Rattle.mc_model.specs.Good.{System}
use Rattle.mc_accepted.specs.Ordered.{Insts, is_pruned, variables_of_node, variables_of_nodes, variables_of_scheduled}
use Rattle.mc_accepted.specs.Unmarked.{unmarked}
use Rattle.mc_accepted.specs.Accepted.{entered}
use Rattle.mc_accepted.specs.Arranged.{Verdict, in_order}
use Rattle.mc_accepted.specs.Determined.{nothing_known, insts_after, determined}
use Rattle.mc_accepted.specs.Switched.{formed}
use Rattle.laws_order.specs.code.Examples.{append, member, source, graph, order_with, in_out, both_ground, clause, over, all_of, holds, call_of, is, number, empty, pair}
use Rattle.laws_order.specs.code.Examples as example
use Rattle.laws_order.specs.code.ExamplesOfOrder.{sign, last_plus_one, no_member}

-- the procedures by number: `member` of two that are given, and the one that gives elements; the
-- one of `append` that takes a list apart
abbrev pub declared : (procedure : ℕ) → Determinism
declared k =
    if nat_eq k member then semidet
    else if nat_eq k 12 then nondet
    else if nat_eq k 11 then multi else det

abbrev pub program : System
program =
    record {
      world = record { source = source; outcome = λ op vs. fails };
      count = 13;
      procs =
          λ k.
          record {
            pred = k;
            head = [];
            first = [];
            last = [];
            body = unmarked (S.Conj no_nodes);
            det = inferred (declared k);
            var_types = [];
          };
      insts = graph;
    }

-- the variables that two goals bind
abbrev pub both : List ℕ → List ℕ → List ℕ
both xs ys = filter (λ x. is_in x ys) xs

-- the variables that are bound after a goal, where each inst is free or ground
abbrev mutual
  pub binds : Node → List ℕ
  binds (node s changes d m) = binds_in s

  pub binds_in : Scheduled → List ℕ
  binds_in (S.Conj ns) = binds_all ns
  binds_in (S.Disj ns) = binds_each ns
  binds_in (S.Switch x arms) = x ∷ binds_in_arms arms
  binds_in (S.Ite vs c t e) = both (binds c ++ binds t) (binds e)
  binds_in (S.Not n) = []
  binds_in (S.Exists vs n) = binds n
  binds_in s = variables_of_scheduled s

  pub binds_all : Nodes → List ℕ
  binds_all no_nodes = []
  binds_all (node_then n ns) = binds n ++ binds_all ns

  pub binds_each : Nodes → List ℕ
  binds_each no_nodes = []
  binds_each (node_then n no_nodes) = binds n
  binds_each (node_then n ns) = both (binds n) (binds_each ns)

  pub binds_in_arms : Arms → List ℕ
  binds_in_arms no_arms = []
  binds_in_arms (arm_then l n no_arms) = binds n
  binds_in_arms (arm_then l n arms) = both (binds n) (binds_in_arms arms)

-- the changes of variables that become ground; the clauses here have fewer than sixteen variables
abbrev pub changes_of : Insts → List ℕ → List (ℕ × ℕ)
changes_of b xs =
    map (λ x. (x, 1)) (filter (λ x. is_in x xs && not (is_bound (b x))) (from 0 16))

module _ (T : ℕ → TypeTerm) where
  -- a goal with its changes, its mark and its determinism
  abbrev pub told_node : (outside : List ℕ) → Insts → List (ℕ × ℕ) → Scheduled → Node
  told_node Q b changes s =
      let m = is_pruned Q b (Some (insts_after (node s changes (inferred det) false) b)) in
      node s changes (inferred (determined program T b nothing_known (node s changes (inferred det) m)))
      m

  abbrev mutual
    pub told : (outside : List ℕ) → Insts → Node → Node
    told Q b (node s changes d m) = told_node Q b (changes_of b (binds_in s)) (told_in Q b s)

    pub told_in : (outside : List ℕ) → Insts → Scheduled → Scheduled
    told_in Q b (S.Conj ns) = S.Conj (told_all Q b ns)
    told_in Q b (S.Disj ns) = S.Disj (told_each Q b ns)
    told_in Q b (S.Switch x arms) = S.Switch x (told_arms Q b arms)
    told_in Q b (S.Ite vs c t e) =
        S.Ite vs (told (Q ++ variables_of_node t) b c)
        (told (Q ++ variables_of_node c) (insts_after (told Q b c) b) t)
        (told Q b e)
    told_in Q b (S.Not n) = S.Not (told Q b n)
    told_in Q b (S.Exists vs n) = S.Exists vs (told Q b n)
    told_in Q b s = s

    pub told_all : (outside : List ℕ) → Insts → Nodes → Nodes
    told_all Q b no_nodes = no_nodes
    told_all Q b (node_then n ns) =
        node_then (told (Q ++ variables_of_nodes ns) b n)
        (told_all (Q ++ variables_of_node n) (insts_after (told Q b n) b) ns)

    pub told_each : (outside : List ℕ) → Insts → Nodes → Nodes
    told_each Q b no_nodes = no_nodes
    told_each Q b (node_then n ns) = node_then (told Q b n) (told_each Q b ns)

    pub told_arms : (outside : List ℕ) → Insts → Arms → Arms
    told_arms Q b no_arms = no_arms
    told_arms Q b (arm_then l n arms) = arm_then l (told Q b n) (told_arms Q b arms)

-- whether the goals that are negated and those that are conditions are pruned, in order
abbrev pub is_marked : Node → Bool
is_marked (node s changes d m) = m

abbrev mutual
  pub marks : Node → List Bool
  marks (node s changes d m) = marks_in s

  pub marks_in : Scheduled → List Bool
  marks_in (S.Conj ns) = marks_all ns
  marks_in (S.Disj ns) = marks_all ns
  marks_in (S.Switch x arms) = marks_in_arms arms
  marks_in (S.Ite vs c t e) = is_marked c ∷ (marks c ++ (marks t ++ marks e))
  marks_in (S.Not n) = is_marked n ∷ marks n
  marks_in (S.Exists vs n) = marks n
  marks_in s = []

  pub marks_all : Nodes → List Bool
  marks_all no_nodes = []
  marks_all (node_then n ns) = marks n ++ marks_all ns

  pub marks_in_arms : Arms → List Bool
  marks_in_arms no_arms = []
  marks_in_arms (arm_then l n arms) = marks n ++ marks_in_arms arms

-- The determinism of clauses and those marks, from the insts of the head's variables at a call and
-- at an answer; none where the goal has no order.
pub record Told : Type 0 where
  pub determinism : Determinism
  pub pruned : List Bool

abbrev pub if_in_order : Verdict → (Node → Told) → Option Told
if_in_order (in_order n) f = Some (f n)
if_in_order v f = None

abbrev pub told_form : (ℕ → TypeTerm) → (first : List ℕ) → Node → Told
told_form T first n =
    let b = entered (from 0 (length first)) first in
    let form = formed program T (λ before after ds. []) b (told T (from 0 (length first)) b n) in
    record { determinism = determined program T b nothing_known form; pruned = marks form }

abbrev pub told_of : (ℕ → TypeTerm) → (first last : List ℕ) → List ClauseForm → Option Told
told_of T first last cs = if_in_order (order_with T first last cs) (told_form T first)

abbrev pub gives : Determinism → List Bool → Option Told
gives d ms = Some (record { determinism = d; pruned = ms })

abbrev pub integers : ℕ → TypeTerm
integers x = int_type

-- `p(X) :- not q(X).`, where the only mode of q is (out), has no order with X free. With X given it
-- can fail. `not member(X, [1, 2])` prunes its goal, whose X occurs nowhere else, or is bound.
abbrev pub negated_call : List ClauseForm
negated_call = clause (over (0 ∷ [])) (Not (call_of example.one (over (0 ∷ [])))) ∷ []

abbrev pub no_member_of_two : List ClauseForm
no_member_of_two =
    clause (over (0 ∷ [])) (all_of (is 0 (number 3) ∷ no_member ∷ [])) ∷ []

abbrev pub NegationsTold : Type 0
NegationsTold =
    (told_of integers (0 ∷ []) (1 ∷ []) negated_call ≡ None)
    × (told_of integers (1 ∷ []) (1 ∷ []) negated_call ≡ gives semidet (true ∷ []))
    × (told_of integers [] [] (clause [] no_member ∷ []) ≡ gives semidet (true ∷ []))
    × (told_of integers (0 ∷ []) (1 ∷ []) no_member_of_two ≡ gives semidet (true ∷ []))
    × (told_of integers (1 ∷ []) (1 ∷ []) negated_call ≢ None)

-- `p(X, Y) :- ( if X > 0 then Y = 1 else true ).` has no order; with `Y = 0` in its else part it is
-- det, and its condition is pruned. A condition whose variables reach the then part is not.
abbrev pub one_branch : List ClauseForm
one_branch =
    clause (over (0 ∷ 1 ∷ []))
    (If [] (call_of example.greater (variable 0 ∷ number 0 ∷ [])) (is 1 (number 1)) holds) ∷ []

abbrev pub both_branches : List ClauseForm
both_branches = clause (over (0 ∷ 1 ∷ [])) sign ∷ []

abbrev pub BranchesTold : Type 0
BranchesTold =
    (told_of integers in_out both_ground one_branch ≡ None)
    × (told_of integers in_out both_ground both_branches ≡ gives det (true ∷ []))
    × (told_of integers (0 ∷ []) (1 ∷ []) (clause (over (0 ∷ [])) last_plus_one ∷ [])
    ≡ gives multi (false ∷ []))
    × (told_of integers in_out both_ground both_branches ≢ None)

-- `append([], Ys, Ys).` and `append([X | Xs], Ys, [X | Zs]) :- append(Xs, Ys, Zs).` in the mode (in,
-- in, out): a switch that misses no list, so it is det. Without the type that lists them it can fail.
abbrev pub append_clauses : List ClauseForm
append_clauses =
    clause (empty ∷ variable 0 ∷ variable 0 ∷ []) holds
    ∷ clause
    (pair (variable 0) (variable 1) ∷ variable 2 ∷ pair (variable 0) (variable 3) ∷ [])
    (call_of append (over (1 ∷ 2 ∷ 3 ∷ [])))
    ∷ []

abbrev pub lists : ℕ → TypeTerm
lists x = if nat_eq x 3 then int_type else union_type 0 no_types

abbrev pub AppendTold : Type 0
AppendTold =
    (told_of lists (1 ∷ 1 ∷ 0 ∷ []) (1 ∷ 1 ∷ 1 ∷ []) append_clauses ≡ gives det [])
    × (told_of integers (1 ∷ 1 ∷ 0 ∷ []) (1 ∷ 1 ∷ 1 ∷ []) append_clauses ≡ gives semidet [])
    × (told_of lists (1 ∷ 1 ∷ 0 ∷ []) (1 ∷ 1 ∷ 1 ∷ []) append_clauses ≢ None)
