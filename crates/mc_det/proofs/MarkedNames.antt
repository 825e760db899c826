-- A goal with its marks names what the goal names.
use Rattle.std.proofs.Common.{ℕ}
use Rattle.mc_program.specs.Programs.{TypeTerm}
use Rattle.mc_model.specs.Scheduled.{Node, node, Scheduled, Conj, Disj, Switch, Ite, Not, Exists, Assign, Test, Build, Take, Const, TestConst, Call, Apply, Nodes, no_nodes, node_then, Arms, no_arms, arm_then}
use Rattle.mc_model.specs.Good.{System}
use Rattle.mc_accepted.specs.Ordered.{Insts}
use Rattle.mc_accepted.specs.Determined.{Known, learned, insts_after}
use Rattle.mc_procs.specs.Named.{Bounds, Named, NamedIn, EachNamed, EachArmNamed}
use Rattle.mc_det.specs.Marked.{marked, marked_in, marked_all, marked_each, marked_arms}

module _ (B : Bounds) (S : System) (type : ℕ → TypeTerm) where
  mutual
    pub marked_named : (b : Insts) (known : Known) (n : Node) → Named B n → Named B (marked S type b known n)
    marked_named b known (node s changes d m) h = (h.0, in_named b known s h.1)

    in_named : (b : Insts) (known : Known) (s : Scheduled) → NamedIn B s → NamedIn B (marked_in S type b known s)
    in_named b known (Conj ns) h = all_named b known ns h
    in_named b known (Disj ns) h = each_named b known ns h
    in_named b known (Switch x arms) h = (h.0, arms_named b known x arms h.1)
    in_named b known (Ite vs c t e) h =
        (h.0, marked_named b known c h.1, marked_named (insts_after c b) known t h.2, marked_named b known e h.3)
    in_named b known (Not n) h = marked_named b known n h
    in_named b known (Exists vs n) h = (h.0, marked_named b known n h.1)
    in_named b known (Assign x y) h = h
    in_named b known (Test x y) h = h
    in_named b known (Build x s ys) h = h
    in_named b known (Take x s ys) h = h
    in_named b known (Const x v) h = h
    in_named b known (TestConst x v) h = h
    in_named b known (Call p xs implied last) h = h
    in_named b known (Apply op xs ys) h = h

    all_named : (b : Insts) (known : Known) (ns : Nodes) → EachNamed B ns → EachNamed B (marked_all S type b known ns)
    all_named b known no_nodes h = tt
    all_named b known (node_then n ns) h = (marked_named b known n h.0, all_named (insts_after n b) known ns h.1)

    each_named : (b : Insts) (known : Known) (ns : Nodes) → EachNamed B ns → EachNamed B (marked_each S type b known ns)
    each_named b known no_nodes h = tt
    each_named b known (node_then n ns) h = (marked_named b known n h.0, each_named b known ns h.1)

    arms_named : (b : Insts) (known : Known) (x : ℕ) (arms : Arms) → EachArmNamed B arms → EachArmNamed B (marked_arms S type b known x arms)
    arms_named b known x no_arms h = tt
    arms_named b known x (arm_then l n arms) h = (h.0, marked_named b (learned x l known) n h.1, arms_named b known x arms h.2)
