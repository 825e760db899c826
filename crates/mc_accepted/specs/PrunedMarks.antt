-- Where marks for pruned goals stand: goals that end and give nothing to what is outside them.
-- (Mercury Language Reference Manual: Determinism, pruning of goals without outputs; this project's
-- form of scheduled goals.)
use Rattle.std.specs.Prelude.{◌≡◌, ℕ, List, ◌++◌, Bool, true, false, not, ◌||◌}
use Rattle.mc_program.specs.Programs.{TypeTerm}
use Rattle.mc_model.specs.Scheduled.{Node, node, Scheduled, Conj, Disj, Switch, Ite, Not, Exists, Assign, Test, Build, Take, Const, TestConst, Call, Apply, Nodes, no_nodes, node_then, Arms, no_arms, arm_then}
use Rattle.mc_model.specs.Good.{System}
use Rattle.mc_accepted.specs.Ordered.{Insts, binds_one, variables_of_node, variables_of_nodes}
use Rattle.mc_accepted.specs.Determined.{insts_after}
use Rattle.mc_accepted.specs.MergedArms.{never_ends}

abbrev pub is_marked : Node → Bool
is_marked (node s changes d is_pruned) = is_pruned

module _ (S : System) (T : ℕ → TypeTerm) where
  -- a goal is pruned where the point after it is reachable and it binds no variable that occurs
  -- outside it
  abbrev pub mark_of : (outside : List ℕ) → Insts → Node → Bool
  mark_of Q b n = not (never_ends S T b n || binds_one Q b (insts_after n b))

  -- Each goal keeps that mark. The then part behind a condition that never ends is not pruned.
  abbrev mutual
    pub KeepsMarks : (outside : List ℕ) → Insts → Node → Type 0
    KeepsMarks Q b (node s changes d is_pruned) =
        (is_pruned ≡ mark_of Q b (node s changes d is_pruned)) × MarksInside Q b s

    pub MarksInside : (outside : List ℕ) → Insts → Scheduled → Type 0
    MarksInside Q b (Conj ns) = AllKeepMarks Q b ns
    MarksInside Q b (Disj ns) = EachKeepsMarks Q b ns
    MarksInside Q b (Switch x arms) = ArmsKeepMarks Q b arms
    MarksInside Q b (Ite vs c t e) =
        KeepsMarks (Q ++ variables_of_node t) b c
        × (never_ends S T b c ≡ false
        → KeepsMarks (Q ++ variables_of_node c) (insts_after c b) t)
        × (never_ends S T b c ≡ true → is_marked t ≡ false)
        × KeepsMarks Q b e
    MarksInside Q b (Not n) = KeepsMarks Q b n
    MarksInside Q b (Exists vs n) = KeepsMarks Q b n
    MarksInside Q b (Assign x y) = Unit {0}
    MarksInside Q b (Test x y) = Unit {0}
    MarksInside Q b (Build x s ys) = Unit {0}
    MarksInside Q b (Take x s ys) = Unit {0}
    MarksInside Q b (Const x v) = Unit {0}
    MarksInside Q b (TestConst x v) = Unit {0}
    MarksInside Q b (Call p xs implied last) = Unit {0}
    MarksInside Q b (Apply op xs ys) = Unit {0}

    pub AllKeepMarks : (outside : List ℕ) → Insts → Nodes → Type 0
    AllKeepMarks Q b no_nodes = Unit {0}
    AllKeepMarks Q b (node_then n ns) =
        KeepsMarks (Q ++ variables_of_nodes ns) b n
        × AllKeepMarks (Q ++ variables_of_node n) (insts_after n b) ns

    pub EachKeepsMarks : (outside : List ℕ) → Insts → Nodes → Type 0
    EachKeepsMarks Q b no_nodes = Unit {0}
    EachKeepsMarks Q b (node_then n ns) = KeepsMarks Q b n × EachKeepsMarks Q b ns

    pub ArmsKeepMarks : (outside : List ℕ) → Insts → Arms → Type 0
    ArmsKeepMarks Q b no_arms = Unit {0}
    ArmsKeepMarks Q b (arm_then l n arms) = KeepsMarks Q b n × ArmsKeepMarks Q b arms
