-- Bodies with the determinism of each goal, as the table has it. (Mercury Language Reference Manual:
-- Determinism, inference.)
use Rattle.std.specs.Prelude.{ℕ}
use Rattle.mc_program.specs.Programs.{TypeTerm}
use Rattle.mc_source.specs.Determinism.{inferred}
use Rattle.mc_source.specs.declared.det.Det.{Det}
use Rattle.mc_model.specs.Scheduled.{Node, node, Scheduled, Conj, Disj, Switch, Ite, Not, Exists, Assign, Test, Build, Take, Const, TestConst, Call, Apply, Nodes, no_nodes, node_then, Arms, no_arms, arm_then, Procedure}
use Rattle.mc_model.specs.Good.{System}
use Rattle.mc_accepted.specs.Ordered.{Insts}
use Rattle.mc_accepted.specs.Determined.{Known, nothing_known, learned, insts_after, determined}
use Rattle.mc_accepted.specs.Fits.{type_of}
use Rattle.mc_accepted.specs.Accepted.{entered, KeepsDeterminism}

module _ (S : System) (type : ℕ → TypeTerm) where
  abbrev mutual
    pub marked : Insts → Known → Node → Node
    marked b known (node s changes d is_pruned) =
        node (marked_in b known s) changes
        (inferred (determined S type b known (node s changes d is_pruned))) is_pruned

    pub marked_in : Insts → Known → Scheduled → Scheduled
    marked_in b known (Conj ns) = Conj (marked_all b known ns)
    marked_in b known (Disj ns) = Disj (marked_each b known ns)
    marked_in b known (Switch x arms) = Switch x (marked_arms b known x arms)
    marked_in b known (Ite vs c t e) =
        Ite vs (marked b known c) (marked (insts_after c b) known t) (marked b known e)
    marked_in b known (Not n) = Not (marked b known n)
    marked_in b known (Exists vs n) = Exists vs (marked b known n)
    marked_in b known (Assign x y) = Assign x y
    marked_in b known (Test x y) = Test x y
    marked_in b known (Build x s ys) = Build x s ys
    marked_in b known (Take x s ys) = Take x s ys
    marked_in b known (Const x v) = Const x v
    marked_in b known (TestConst x v) = TestConst x v
    marked_in b known (Call p xs implied last) = Call p xs implied last
    marked_in b known (Apply op xs ys) = Apply op xs ys

    pub marked_all : Insts → Known → Nodes → Nodes
    marked_all b known no_nodes = no_nodes
    marked_all b known (node_then n ns) =
        node_then (marked b known n) (marked_all (insts_after n b) known ns)

    pub marked_each : Insts → Known → Nodes → Nodes
    marked_each b known no_nodes = no_nodes
    marked_each b known (node_then n ns) =
        node_then (marked b known n) (marked_each b known ns)

    pub marked_arms : Insts → Known → ℕ → Arms → Arms
    marked_arms b known x no_arms = no_arms
    marked_arms b known x (arm_then l n arms) =
        arm_then l (marked b (learned x l known) n) (marked_arms b known x arms)

-- a procedure's body with its marks
abbrev pub marked_body : System → Procedure → Node
marked_body S p = marked S (type_of S p) (entered p.head p.first) nothing_known p.body

-- a procedure with its determinism and the marks of its body
abbrev pub with_marks : System → Det → Procedure → Procedure
with_marks S d p = record p { body = marked_body S p; det = d }

-- The law of marks: each goal of a body with its marks keeps the determinism that the table gives.
abbrev pub MarksAreKept : Type 0
MarksAreKept =
    (S : System) (p : Procedure) (d : Det)
    → KeepsDeterminism S (with_marks S d p) (entered p.head p.first) nothing_known
    (marked_body S p)
