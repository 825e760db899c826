-- Bodies whose goals are pruned where they end and give nothing to what is outside them. (Mercury
-- Language Reference Manual: Determinism, pruning of goals without outputs.)
use Rattle.std.specs.Prelude.{ℕ, List, ◌++◌, Bool, false, if◌then◌else◌}
use Rattle.mc_program.specs.Programs.{TypeTerm}
use Rattle.mc_model.specs.Scheduled.{Node, node, Scheduled, Conj, Disj, Switch, Ite, Not, Exists, Assign, Test, Build, Take, Const, TestConst, Call, Apply, Nodes, no_nodes, node_then, Arms, no_arms, arm_then, Procedure}
use Rattle.mc_model.specs.Good.{System}
use Rattle.mc_accepted.specs.Ordered.{Insts, variables_of_node, variables_of_nodes}
use Rattle.mc_accepted.specs.Determined.{insts_after}
use Rattle.mc_accepted.specs.Fits.{type_of}
use Rattle.mc_accepted.specs.Accepted.{entered}
use Rattle.mc_accepted.specs.MergedArms.{never_ends}
use Rattle.mc_accepted.specs.PrunedMarks.{mark_of, KeepsMarks}

-- the then part behind a condition that never ends is not pruned
abbrev pub unpruned : Node → Node
unpruned (node s changes d m) = node s changes d false

abbrev pub then_reached : (never : Bool) → Node → Node
then_reached never n = if never then unpruned n else n

module _ (S : System) (T : ℕ → TypeTerm) where
  abbrev mutual
    pub pruned_node : (outside : List ℕ) → Insts → Node → Node
    pruned_node Q b (node s changes d m) =
        node (pruned_in Q b s) changes d (mark_of S T Q b (node s changes d m))

    pub pruned_in : (outside : List ℕ) → Insts → Scheduled → Scheduled
    pruned_in Q b (Conj ns) = Conj (pruned_all Q b ns)
    pruned_in Q b (Disj ns) = Disj (pruned_each Q b ns)
    pruned_in Q b (Switch x arms) = Switch x (pruned_arms Q b arms)
    pruned_in Q b (Ite vs c t e) =
        Ite vs (pruned_node (Q ++ variables_of_node t) b c)
        (then_reached (never_ends S T b c)
        (pruned_node (Q ++ variables_of_node c) (insts_after c b) t))
        (pruned_node Q b e)
    pruned_in Q b (Not n) = Not (pruned_node Q b n)
    pruned_in Q b (Exists vs n) = Exists vs (pruned_node Q b n)
    pruned_in Q b (Assign x y) = Assign x y
    pruned_in Q b (Test x y) = Test x y
    pruned_in Q b (Build x s ys) = Build x s ys
    pruned_in Q b (Take x s ys) = Take x s ys
    pruned_in Q b (Const x v) = Const x v
    pruned_in Q b (TestConst x v) = TestConst x v
    pruned_in Q b (Call p xs implied last) = Call p xs implied last
    pruned_in Q b (Apply op xs ys) = Apply op xs ys

    pub pruned_all : (outside : List ℕ) → Insts → Nodes → Nodes
    pruned_all Q b no_nodes = no_nodes
    pruned_all Q b (node_then n ns) =
        node_then (pruned_node (Q ++ variables_of_nodes ns) b n)
        (pruned_all (Q ++ variables_of_node n) (insts_after n b) ns)

    pub pruned_each : (outside : List ℕ) → Insts → Nodes → Nodes
    pruned_each Q b no_nodes = no_nodes
    pruned_each Q b (node_then n ns) = node_then (pruned_node Q b n) (pruned_each Q b ns)

    pub pruned_arms : (outside : List ℕ) → Insts → Arms → Arms
    pruned_arms Q b no_arms = no_arms
    pruned_arms Q b (arm_then l n arms) = arm_then l (pruned_node Q b n) (pruned_arms Q b arms)

-- the body of a procedure
abbrev pub pruned_body : System → Procedure → Node
pruned_body S p = pruned_node S (type_of S p) p.head (entered p.head p.first) p.body

-- each goal of a pruned body keeps its mark
abbrev pub PrunedKeepMarks : Type 0
PrunedKeepMarks =
    (S : System) (p : Procedure)
    → KeepsMarks S (type_of S p) p.head (entered p.head p.first) (pruned_body S p)
