-- Goals without what is told of them after they are in order: determinisms, and marks for pruned
-- goals and last calls. (This project's form of scheduled goals.)
use Rattle.std.specs.Prelude.{ℕ, List, [], false}
use Rattle.mc_source.specs.Determinism.{inferred, det}
use Rattle.mc_model.specs.Scheduled.{Node, node, Scheduled, Conj, Disj, Switch, Ite, Not, Exists, Assign, Test, Build, Take, Const, TestConst, Call, Apply, Nodes, no_nodes, node_then, Arms, no_arms, arm_then}

abbrev pub unmarked : Scheduled → Node
unmarked s = node s [] (inferred det) false

-- with this of the insts that each goal changes
module _ (kept : List (ℕ × ℕ) → List (ℕ × ℕ)) where
  abbrev mutual
    pub untold : Node → Node
    untold (node s changes d pruned) = node (untold_scheduled s) (kept changes) (inferred det) false

    pub untold_scheduled : Scheduled → Scheduled
    untold_scheduled (Conj ns) = Conj (untold_nodes ns)
    untold_scheduled (Disj ns) = Disj (untold_nodes ns)
    untold_scheduled (Switch v arms) = Switch v (untold_arms arms)
    untold_scheduled (Ite vs c t e) = Ite vs (untold c) (untold t) (untold e)
    untold_scheduled (Not n) = Not (untold n)
    untold_scheduled (Exists vs n) = Exists vs (untold n)
    untold_scheduled (Assign v w) = Assign v w
    untold_scheduled (Test v w) = Test v w
    untold_scheduled (Build v s ys) = Build v s ys
    untold_scheduled (Take v s ys) = Take v s ys
    untold_scheduled (Const v c) = Const v c
    untold_scheduled (TestConst v c) = TestConst v c
    untold_scheduled (Call p xs implied last) = Call p xs implied false
    untold_scheduled (Apply op xs ys) = Apply op xs ys

    pub untold_nodes : Nodes → Nodes
    untold_nodes no_nodes = no_nodes
    untold_nodes (node_then n ns) = node_then (untold n) (untold_nodes ns)

    pub untold_arms : Arms → Arms
    untold_arms no_arms = no_arms
    untold_arms (arm_then l n arms) = arm_then l (untold n) (untold_arms arms)

-- the order of a goal alone
abbrev pub nothing_kept : List (ℕ × ℕ) → List (ℕ × ℕ)
nothing_kept changes = []

abbrev pub unmarked_node : Node → Node
unmarked_node = untold nothing_kept

abbrev pub unmarked_nodes : Nodes → Nodes
unmarked_nodes = untold_nodes nothing_kept

-- the order of a goal with the insts that each goal changes
abbrev pub all_kept : List (ℕ × ℕ) → List (ℕ × ℕ)
all_kept changes = changes

abbrev pub changed_node : Node → Node
changed_node = untold all_kept

abbrev pub changed_nodes : Nodes → Nodes
changed_nodes = untold_nodes all_kept
