-- The first committed call of a goal that stands where all solutions are needed, as the marks of the
-- goal tell it.
use Rattle.std.specs.Prelude.{ℕ, Bool, true, false, not, ◌&&◌, ◌||◌, List, Option, Some, None, if◌then◌else◌}
use Rattle.std.specs.Option.{option_or}
use Rattle.mc_model.specs.Scheduled.{Node, node, Scheduled, Conj, Disj, Switch, Ite, Not, Exists, Assign, Test, Build, Take, Const, TestConst, Call, Apply, Nodes, no_nodes, node_then, Arms, no_arms, arm_then, Procedure}
use Rattle.mc_model.specs.Stream.{is_bound}
use Rattle.mc_accepted.specs.Ordered.{Insts, change_at, binds_one, variables_of_node}
use Rattle.mc_accepted.specs.Determined.{insts_after}
use Rattle.mc_accepted.specs.DeterminismFaults.{is_empty}
use Rattle.mc_det.specs.code.Points.{insts_in}
use Rattle.mc_det_rules.specs.declared.calls.Misplaced.{Misplaced}
use Rattle.mc_det_rules.specs.code.Io.{fails, none_fail}

-- whether a variable that is free at a point is bound after changes
abbrev pub binds : (point : List ℕ) → (changes : List (ℕ × ℕ)) → ℕ → Bool
binds point changes x =
    not (is_bound (insts_in point x)) && is_bound (change_at x changes (insts_in point x))

-- what is found of goals beside each other, the first of them first
abbrev pub both : Misplaced → Misplaced → Misplaced
both a b =
    record {
      in_all = option_or a.in_all b.in_all;
      in_first = option_or a.in_first b.in_first;
    }

-- of a goal that is always asked for its first answer alone
abbrev pub in_first_alone : Misplaced → Misplaced
in_first_alone a = record { in_all = a.in_first; in_first = a.in_first }

-- of a goal after which others come: it is asked for all its answers where one of them can fail
abbrev pub before_others : (is_sure : Bool) → Misplaced → Misplaced
before_others is_sure a =
    record { in_all = a.in_all; in_first = if is_sure then a.in_first else a.in_all }

-- of a condition, whose then part sees what it binds or not
abbrev pub of_condition : (is_seen is_sure : Bool) → Misplaced → Misplaced
of_condition is_seen is_sure a = if is_seen then before_others is_sure a else in_first_alone a

-- of a goal, which is pruned or not
abbrev pub of_goal : (is_pruned : Bool) → Misplaced → Misplaced
of_goal is_pruned a = if is_pruned then in_first_alone a else a

-- of a goal without calls, and of a call, which has implied arguments or hasn't
abbrev pub none_found : Misplaced
none_found = record { in_all = None; in_first = None }

abbrev pub of_call : (is_committed has_implied : Bool) → ℕ → Misplaced
of_call is_committed has_implied k =
    record {
      in_all = if is_committed then Some k else None;
      in_first = if is_committed && has_implied then Some k else None;
    }

-- whether a condition has its first answer alone asked for
abbrev pub first_of : Insts → (first : Bool) → (condition then_part : Node) → Bool
first_of b first c t =
    not (binds_one (variables_of_node t) b (insts_after c b)) || (first && not (fails t))

module _ (procs : ℕ → Procedure) where
  abbrev mutual
    pub misplaced : Insts → (first : Bool) → Node → Option ℕ
    misplaced b first (node s changes d is_pruned) = misplaced_in b (first || is_pruned) s

    pub misplaced_in : Insts → (first : Bool) → Scheduled → Option ℕ
    misplaced_in b first (Conj ns) = one_of_all b first ns
    misplaced_in b first (Disj ns) = one_of_each b first ns
    misplaced_in b first (Switch x arms) = one_of_arms b first arms
    misplaced_in b first (Ite vs c t e) =
        option_or (misplaced b (first_of b first c t) c)
        (option_or (misplaced (insts_after c b) first t) (misplaced b first e))
    misplaced_in b first (Not n) = misplaced b true n
    misplaced_in b first (Exists vs n) = misplaced b first n
    misplaced_in b first (Assign x y) = None
    misplaced_in b first (Test x y) = None
    misplaced_in b first (Build x s ys) = None
    misplaced_in b first (Take x s ys) = None
    misplaced_in b first (Const x v) = None
    misplaced_in b first (TestConst x v) = None
    misplaced_in b first (Call p xs implied last) =
        if (procs p).det.committed && not (first && is_empty implied) then Some p else None
    misplaced_in b first (Apply op xs ys) = None

    pub one_of_all : Insts → (first : Bool) → Nodes → Option ℕ
    one_of_all b first no_nodes = None
    one_of_all b first (node_then n ns) =
        option_or (misplaced b (first && none_fail ns) n) (one_of_all (insts_after n b) first ns)

    pub one_of_each : Insts → (first : Bool) → Nodes → Option ℕ
    one_of_each b first no_nodes = None
    one_of_each b first (node_then n ns) =
        option_or (misplaced b first n) (one_of_each b first ns)

    pub one_of_arms : Insts → (first : Bool) → Arms → Option ℕ
    one_of_arms b first no_arms = None
    one_of_arms b first (arm_then l n arms) =
        option_or (misplaced b first n) (one_of_arms b first arms)

  -- what a walk finds in a goal, in its form, and in the goals of lists
  abbrev pub found_in : Insts → Node → Misplaced
  found_in b n = record { in_all = misplaced b false n; in_first = misplaced b true n }

  abbrev pub found_in_part : Insts → Scheduled → Misplaced
  found_in_part b s = record { in_all = misplaced_in b false s; in_first = misplaced_in b true s }

  abbrev pub found_in_all : Insts → Nodes → Misplaced
  found_in_all b ns = record { in_all = one_of_all b false ns; in_first = one_of_all b true ns }

  abbrev pub found_in_each : Insts → Nodes → Misplaced
  found_in_each b ns = record { in_all = one_of_each b false ns; in_first = one_of_each b true ns }

  abbrev pub found_in_arms : Insts → Arms → Misplaced
  found_in_arms b arms =
      record { in_all = one_of_arms b false arms; in_first = one_of_arms b true arms }
