-- Where io stands in a goal, as the marks of the goal tell it.
use Rattle.std.specs.Prelude.{ℕ, Bool, true, false, not, nat_eq, ◌&&◌, ◌||◌, List}
use Rattle.std.specs.List.{list_any}
use Rattle.mc_program.specs.Programs.{TypeTerm}
use Rattle.mc_program.specs.Values.{Val}
use Rattle.mc_program.specs.declared.builtin.Builtin.{Builtin}
use Rattle.mc_source.specs.Determinism.{row_of}
use Rattle.mc_source.specs.declared.det.Det.{Det}
use Rattle.mc_model.specs.Outcomes.{Outcome}
use Rattle.mc_model.specs.Scheduled.{Node, node, Scheduled, Conj, Disj, Switch, Ite, Not, Exists, Assign, Test, Build, Take, Const, TestConst, Call, Apply, Nodes, no_nodes, node_then, Arms, no_arms, arm_then}
use Rattle.mc_model.specs.Good.{System}
use Rattle.mc_accepted.specs.Determined.{is_io, is_io_in, one_is_io, arm_is_io}
use Rattle.mc_accepted.specs.DeterminismFaults.{is_wrong_io}
use Rattle.mc_procs.specs.Procedures.{PlainProcs, as_system}
use Rattle.mc_det_rules.specs.declared.io.IoSeen.{IoSeen}

-- the same, whatever builtins do and types are
abbrev pub InSystems : PlainProcs → (System → (ℕ → TypeTerm) → Type 0) → Type 0
InSystems q P =
    (outcome : Builtin → List Val → Outcome) (type : ℕ → TypeTerm) → P (as_system outcome q) type

-- whether one of these insts is `dead`, by its number
abbrev pub dead_at : List ℕ → Bool
dead_at is = list_any (λ i. nat_eq i 3) is

-- whether the mark of a goal, and none of the marks of goals, tells that it can fail
abbrev pub fails : Node → Bool
fails (node s changes d is_pruned) = d.can_fail

abbrev pub none_fail : Nodes → Bool
none_fail no_nodes = true
none_fail (node_then n ns) = not (fails n) && none_fail ns

-- two goals beside each other, and one that may not do io
abbrev pub joined : IoSeen → IoSeen → IoSeen
joined a b =
    record {
      is_there = a.is_there || b.is_there;
      is_misplaced = a.is_misplaced || b.is_misplaced;
    }

abbrev pub forbidden : IoSeen → IoSeen
forbidden a = record { is_there = a.is_there; is_misplaced = a.is_there }

-- a goal without parts
abbrev pub alone : (is_there : Bool) → IoSeen
alone is_there = record { is_there = is_there; is_misplaced = false }

-- a goal, from what its form tells
abbrev pub outer : IoSeen → (first is_pruned : Bool) → Det → IoSeen
outer inside first is_pruned d =
    record {
      is_there = inside.is_there;
      is_misplaced =
          is_wrong_io inside.is_there first is_pruned (row_of d) || inside.is_misplaced;
    }

module _ (S : System) (T : ℕ → TypeTerm) where
  -- whether some io goal stands where it must not
  abbrev mutual
    pub misplaces : (first : Bool) → Node → Bool
    misplaces first (node s changes d is_pruned) =
        is_wrong_io (is_io_in S T s) first is_pruned (row_of d)
        || misplaces_in (first || is_pruned) s

    pub misplaces_in : (first : Bool) → Scheduled → Bool
    misplaces_in first (Conj ns) = all_misplace first ns
    misplaces_in first (Disj ns) =
        (first && (one_is_io S T ns && not (none_fail ns))) || each_misplaces first ns
    misplaces_in first (Switch x arms) = arms_misplace first arms
    misplaces_in first (Ite vs c t e) = is_io S T c || (misplaces first t || misplaces first e)
    misplaces_in first (Not n) = is_io S T n
    misplaces_in first (Exists vs n) = misplaces first n
    misplaces_in first (Assign x y) = false
    misplaces_in first (Test x y) = false
    misplaces_in first (Build x s ys) = false
    misplaces_in first (Take x s ys) = false
    misplaces_in first (Const x v) = false
    misplaces_in first (TestConst x v) = false
    misplaces_in first (Call p xs implied last) = false
    misplaces_in first (Apply op xs ys) = false

    pub all_misplace : (first : Bool) → Nodes → Bool
    all_misplace first no_nodes = false
    all_misplace first (node_then n ns) =
        misplaces (first && none_fail ns) n || all_misplace first ns

    pub each_misplaces : (first : Bool) → Nodes → Bool
    each_misplaces first no_nodes = false
    each_misplaces first (node_then n ns) = misplaces first n || each_misplaces first ns

    pub arms_misplace : (first : Bool) → Arms → Bool
    arms_misplace first no_arms = false
    arms_misplace first (arm_then l n arms) = misplaces first n || arms_misplace first arms

  -- what a walk finds in a goal, in its form, and in the goals of lists
  abbrev pub found_in : (first : Bool) → Node → IoSeen
  found_in first n = record { is_there = is_io S T n; is_misplaced = misplaces first n }

  abbrev pub found_in_part : (first : Bool) → Scheduled → IoSeen
  found_in_part first s = record { is_there = is_io_in S T s; is_misplaced = misplaces_in first s }

  abbrev pub found_in_all : (first : Bool) → Nodes → IoSeen
  found_in_all first ns =
      record { is_there = one_is_io S T ns; is_misplaced = all_misplace first ns }

  abbrev pub found_in_each : (first : Bool) → Nodes → IoSeen
  found_in_each first ns =
      record { is_there = one_is_io S T ns; is_misplaced = each_misplaces first ns }

  abbrev pub found_in_arms : (first : Bool) → Arms → IoSeen
  found_in_arms first arms =
      record { is_there = arm_is_io S T arms; is_misplaced = arms_misplace first arms }
