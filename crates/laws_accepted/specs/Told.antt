-- Ordered goals as they are told: the same goals with other determinisms and marks. (Mercury Language
-- Reference Manual: Determinism; this project's form of scheduled goals.)
use Rattle.std.specs.Prelude.{◌≡◌, ◌↔◌, ℕ, List, Bool}
use Rattle.mc_program.specs.Values.{Val}
use Rattle.mc_program.specs.declared.builtin.Builtin.{Builtin}
use Rattle.mc_source.specs.declared.det.Det.{Det}
use Rattle.mc_model.specs.Scheduled.{Label, Node, node, Scheduled, Conj, Disj, Switch, Ite, Not, Exists, Assign, Test, Build, Take, Const, TestConst, Call, Apply, Nodes, no_nodes, node_then, Arms, no_arms, arm_then}
use Rattle.mc_accepted.specs.Unmarked.{changed_node}

-- Two goals with the same insts, which differ at most in determinisms, in marks for pruned goals and
-- in marks for last calls.
mutual
  pub data Retold : Node → Node → Type 0 where
    retold :
        {s t : Scheduled} {changes : List (ℕ × ℕ)} {d e : Det} {m l : Bool} → RetoldIn s t
        → Retold (node s changes d m) (node t changes e l)

  pub data RetoldIn : Scheduled → Scheduled → Type 0 where
    conj : {ns ms : Nodes} → RetoldAll ns ms → RetoldIn (Conj ns) (Conj ms)
    disj : {ns ms : Nodes} → RetoldAll ns ms → RetoldIn (Disj ns) (Disj ms)
    switch : {x : ℕ} {ks ls : Arms} → RetoldArms ks ls → RetoldIn (Switch x ks) (Switch x ls)
    ite :
        {vs : List ℕ} {c t e k u f : Node} → Retold c k → Retold t u → Retold e f
        → RetoldIn (Ite vs c t e) (Ite vs k u f)
    neg : {n m : Node} → Retold n m → RetoldIn (Not n) (Not m)
    some : {vs : List ℕ} {n m : Node} → Retold n m → RetoldIn (Exists vs n) (Exists vs m)
    assign : {x y : ℕ} → RetoldIn (Assign x y) (Assign x y)
    test : {x y : ℕ} → RetoldIn (Test x y) (Test x y)
    build : {x s : ℕ} {ys : List ℕ} → RetoldIn (Build x s ys) (Build x s ys)
    take : {x s : ℕ} {ys : List ℕ} → RetoldIn (Take x s ys) (Take x s ys)
    put : {x : ℕ} {v : Val} → RetoldIn (Const x v) (Const x v)
    test_constant : {x : ℕ} {v : Val} → RetoldIn (TestConst x v) (TestConst x v)
    call :
        {p : ℕ} {xs implied : List ℕ} {last also_last : Bool}
        → RetoldIn (Call p xs implied last) (Call p xs implied also_last)
    apply : {op : Builtin} {xs ys : List ℕ} → RetoldIn (Apply op xs ys) (Apply op xs ys)

  pub data RetoldAll : Nodes → Nodes → Type 0 where
    done : RetoldAll no_nodes no_nodes
    next :
        {n m : Node} {ns ms : Nodes} → Retold n m → RetoldAll ns ms
        → RetoldAll (node_then n ns) (node_then m ms)

  pub data RetoldArms : Arms → Arms → Type 0 where
    no_arm : RetoldArms no_arms no_arms
    arm :
        {l : Label} {n m : Node} {ks ls : Arms} → Retold n m → RetoldArms ks ls
        → RetoldArms (arm_then l n ks) (arm_then l m ls)

-- So they are told alike where they have one order, with the insts that each goal changes, and only
-- there.
abbrev pub ChangedIsRetold : Type 0
ChangedIsRetold = (n m : Node) → (changed_node n ≡ changed_node m) ↔ Retold n m
