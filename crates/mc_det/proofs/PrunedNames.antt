-- A goal whose goals are pruned names what the goal names.
use Rattle.std.proofs.Common.{ℕ, List, ◌++◌, Bool, true, false}
use Rattle.mc_program.specs.Programs.{TypeTerm}
use Rattle.mc_model.specs.Scheduled.{Node, node, Scheduled, Conj, Disj, Switch, Ite, Not, Exists, Assign, Test, Build, Take, Const, TestConst, Call, Apply, Nodes, no_nodes, node_then, Arms, no_arms, arm_then}
use Rattle.mc_model.specs.Good.{System}
use Rattle.mc_accepted.specs.Ordered.{Insts, variables_of_node, variables_of_nodes}
use Rattle.mc_accepted.specs.Determined.{insts_after}
use Rattle.mc_accepted.specs.MergedArms.{never_ends}
use Rattle.mc_procs.specs.Named.{Bounds, Named, NamedIn, EachNamed, EachArmNamed}
use Rattle.mc_det.specs.Pruned.{then_reached, pruned_node, pruned_in, pruned_all, pruned_each, pruned_arms}

module _ (B : Bounds) (S : System) (T : ℕ → TypeTerm) where
  then_named : (never : Bool) (n : Node) → Named B n → Named B (then_reached never n)
  then_named true (node s changes d m) h = h
  then_named false (node s changes d m) h = h

  mutual
    pub pruned_named : (Q : List ℕ) (b : Insts) (n : Node) → Named B n → Named B (pruned_node S T Q b n)
    pruned_named Q b (node s changes d m) h = (h.0, in_named Q b s h.1)

    in_named : (Q : List ℕ) (b : Insts) (s : Scheduled) → NamedIn B s → NamedIn B (pruned_in S T Q b s)
    in_named Q b (Conj ns) h = all_named Q b ns h
    in_named Q b (Disj ns) h = each_named Q b ns h
    in_named Q b (Switch x arms) h = (h.0, arms_named Q b arms h.1)
    in_named Q b (Ite vs c t e) h = (
      h.0,
      pruned_named (Q ++ variables_of_node t) b c h.1,
      then_named (never_ends S T b c) (pruned_node S T (Q ++ variables_of_node c) (insts_after c b) t) (pruned_named (Q ++ variables_of_node c) (insts_after c b) t h.2),
      pruned_named Q b e h.3,
    )
    in_named Q b (Not n) h = pruned_named Q b n h
    in_named Q b (Exists vs n) h = (h.0, pruned_named Q b n h.1)
    in_named Q b (Assign x y) h = h
    in_named Q b (Test x y) h = h
    in_named Q b (Build x s ys) h = h
    in_named Q b (Take x s ys) h = h
    in_named Q b (Const x v) h = h
    in_named Q b (TestConst x v) h = h
    in_named Q b (Call p xs implied last) h = h
    in_named Q b (Apply op xs ys) h = h

    all_named : (Q : List ℕ) (b : Insts) (ns : Nodes) → EachNamed B ns → EachNamed B (pruned_all S T Q b ns)
    all_named Q b no_nodes h = tt
    all_named Q b (node_then n ns) h =
        (pruned_named (Q ++ variables_of_nodes ns) b n h.0, all_named (Q ++ variables_of_node n) (insts_after n b) ns h.1)

    each_named : (Q : List ℕ) (b : Insts) (ns : Nodes) → EachNamed B ns → EachNamed B (pruned_each S T Q b ns)
    each_named Q b no_nodes h = tt
    each_named Q b (node_then n ns) h = (pruned_named Q b n h.0, each_named Q b ns h.1)

    arms_named : (Q : List ℕ) (b : Insts) (arms : Arms) → EachArmNamed B arms → EachArmNamed B (pruned_arms S T Q b arms)
    arms_named Q b no_arms h = tt
    arms_named Q b (arm_then l n arms) h = (h.0, pruned_named Q b n h.1, arms_named Q b arms h.2)
