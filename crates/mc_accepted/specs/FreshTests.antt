-- Variables that stand for implied outputs of builtins are typed like them. (Mercury Language
-- Reference Manual: Modes, implied modes; this project's form of them.)
use Rattle.std.specs.Prelude.{◌≡◌, ℕ, ◌≤◌}
use Rattle.mc_program.specs.Programs.{TypeTerm}
use Rattle.mc_model.specs.Scheduled.{Node, node, Scheduled, Conj, Disj, Switch, Ite, Not, Exists, Assign, Test, Build, Take, Const, TestConst, Call, Apply, Nodes, no_nodes, node_then, Arms, no_arms, arm_then}

-- Each test of a fresh variable, one that is numbered from next on, compares values of one type.
module _ (T : ℕ → TypeTerm) (next : ℕ) where
  abbrev mutual
    pub TestsAlike : Node → Type 0
    TestsAlike (node s changes d pruned) = AlikeIn s

    pub AlikeIn : Scheduled → Type 0
    AlikeIn (Conj ns) = AllAlike ns
    AlikeIn (Disj ns) = AllAlike ns
    AlikeIn (Switch v arms) = ArmsAlike arms
    AlikeIn (Ite vs c t e) = TestsAlike c × TestsAlike t × TestsAlike e
    AlikeIn (Not n) = TestsAlike n
    AlikeIn (Exists vs n) = TestsAlike n
    AlikeIn (Test v w) = next ≤ v → T v ≡ T w
    AlikeIn (Assign v w) = Unit {0}
    AlikeIn (Build v s ys) = Unit {0}
    AlikeIn (Take v s ys) = Unit {0}
    AlikeIn (Const v c) = Unit {0}
    AlikeIn (TestConst v c) = Unit {0}
    AlikeIn (Call p xs implied last) = Unit {0}
    AlikeIn (Apply op xs ys) = Unit {0}

    pub AllAlike : Nodes → Type 0
    AllAlike no_nodes = Unit {0}
    AllAlike (node_then n ns) = TestsAlike n × AllAlike ns

    pub ArmsAlike : Arms → Type 0
    ArmsAlike no_arms = Unit {0}
    ArmsAlike (arm_then l n arms) = TestsAlike n × ArmsAlike arms
