-- The skeleton of a goal: what its determinism is made of by the table, where the insts before it,
-- and what is known of its variables, are these. Calls stay calls; all else is told by the insts
-- alone. (Mercury Language Reference Manual: Determinism, inference.)
use Rattle.std.specs.Prelude.{ℕ, List, [], ◌∷◌, ◌++◌, not, if◌then◌else◌}
use Rattle.mc_program.specs.Programs.{TypeTerm}
use Rattle.mc_source.specs.Determinism.{Determinism, inferred, erroneous, failure, det, semidet}
use Rattle.mc_model.specs.Scheduled.{Node, node, Scheduled, Conj, Disj, Switch, Ite, Not, Exists, Assign, Test, Build, Take, Const, TestConst, Call, Apply, Nodes, no_nodes, node_then, Arms, no_arms, arm_then}
use Rattle.mc_model.specs.Good.{System}
use Rattle.mc_accepted.specs.Ordered.{Insts}
use Rattle.mc_accepted.specs.Determined.{Known, learned, knows_constant, insts_after, builtin_determinism, allowed_in, take_determinism, misses}
use Rattle.mc_accepted.specs.DeterminismFaults.{is_empty}
use Rattle.mc_det_constraints.specs.declared.constraint.Step.{Step}
use Rattle.mc_det_constraints.specs.declared.constraint.Step.TheVariants as T

abbrev pub fixed : Determinism → List Step
fixed d = T.Fixed (inferred d) ∷ []

module _ (S : System) (type : ℕ → TypeTerm) where
  -- a pruned goal, and a switch that misses a symbol, have a step more
  abbrev mutual
    pub constraint : Insts → Known → Node → List Step
    constraint b known (node s changes d is_pruned) =
        constraint_in b known s ++ (if is_pruned then T.Pruned ∷ [] else [])

    pub constraint_in : Insts → Known → Scheduled → List Step
    constraint_in b known (Conj ns) = constraint_all b known ns
    constraint_in b known (Disj ns) = constraint_any b known ns
    constraint_in b known (Switch x arms) =
        constraint_arms b known x arms
        ++ (if misses S type (allowed_in S type (type x) (b x)) arms then T.Misses ∷ [] else [])
    constraint_in b known (Ite vs c t e) =
        constraint b known c
        ++ (constraint (insts_after c b) known t ++ (constraint b known e ++ T.Ite ∷ []))
    constraint_in b known (Not n) = constraint b known n ++ T.Not ∷ []
    constraint_in b known (Exists vs n) = constraint b known n
    constraint_in b known (Assign x y) = fixed det
    constraint_in b known (Test x y) = fixed semidet
    constraint_in b known (Build x s ys) = fixed det
    constraint_in b known (Take x s ys) = fixed (take_determinism S type b known x s ys)
    constraint_in b known (Const x v) = fixed det
    constraint_in b known (TestConst x v) =
        fixed (if knows_constant (known x) v then det else semidet)
    constraint_in b known (Call p xs implied last) = T.Call p (not (is_empty implied)) ∷ []
    constraint_in b known (Apply op xs ys) = fixed (builtin_determinism op)

    pub constraint_all : Insts → Known → Nodes → List Step
    constraint_all b known no_nodes = fixed det
    constraint_all b known (node_then n ns) =
        constraint b known n ++ (constraint_all (insts_after n b) known ns ++ T.Conj ∷ [])

    pub constraint_any : Insts → Known → Nodes → List Step
    constraint_any b known no_nodes = fixed failure
    constraint_any b known (node_then n ns) =
        constraint b known n ++ (constraint_any b known ns ++ T.Disj ∷ [])

    pub constraint_arms : Insts → Known → ℕ → Arms → List Step
    constraint_arms b known x no_arms = fixed erroneous
    constraint_arms b known x (arm_then l n arms) =
        constraint b (learned x l known) n ++ (constraint_arms b known x arms ++ T.Arms ∷ [])
