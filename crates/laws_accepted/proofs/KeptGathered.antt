-- What follows of a group from several facts about it, one for each value of some type, holds of each
-- group where each of the facts does.
use Rattle.std.proofs.Common.{ℕ, zero, suc, List, [], ◌∷◌, Option, Some, None}
use Rattle.mc_program.specs.Programs.{TypeTerm}
use Rattle.mc_model.specs.Scheduled.{Label, Node, node, Scheduled, Conj, Disj, Switch, Ite, Not, Exists, Assign, Test, Build, Take, Const, TestConst, Call, Apply, Nodes, no_nodes, node_then}
use Rattle.mc_model.specs.Good.{System}
use Rattle.mc_accepted.specs.Determined.{insts_after}
use Rattle.mc_accepted.specs.Ordered.{Insts}
use Rattle.mc_accepted.specs.Switched.{Disjunct, labels_of, opens_with, those, Kept, openings_of, chosen, disjuncts}
use Rattle.laws_accepted.specs.KeptLaws.{OfGroup, OfArm, OfArms, OfChosen, OfGroups, OfEachGroup, OfEachIn, OfEachInAll, OfEachInEach}

module _ (A : Type 0) (S : System) (T : ℕ → TypeTerm) (kept : (before after : Insts) → Kept) (Fact : A → OfGroup) (Holds : OfGroup) (follows : (b c : Insts) (ds : List Disjunct) → ((a : A) → Fact a b c ds) → Holds b c ds) where
  abbrev Gathers : ℕ → Type 0
  Gathers k = (b c : Insts) (out : List ℕ) (ds : List Disjunct) → ((a : A) → OfGroups S T kept (Fact a) k b c out ds) → OfGroups S T kept Holds k b c out ds

  module _ (k : ℕ) (rec : Gathers k) (b c : Insts) (out : List ℕ) where
    arm_gathers : (ds : List Disjunct) → ((a : A) → OfArm S T kept (Fact a) (OfGroups S T kept (Fact a) k b c out) b c ds) → OfArm S T kept Holds (OfGroups S T kept Holds k b c out) b c ds
    arm_gathers [] h = (follows b c [] (λ a. (h a).0), rec b c out [] (λ a. (h a).1))
    arm_gathers (d ∷ []) h = tt
    arm_gathers (d ∷ e ∷ ds) h = (follows b c (d ∷ e ∷ ds) (λ a. (h a).0), rec b c out (d ∷ e ∷ ds) (λ a. (h a).1))

    arms_gather : (x : ℕ) (ds : List Disjunct) (ls : List Label) → ((a : A) → OfArms S T kept (Fact a) (OfArm S T kept (Fact a) (OfGroups S T kept (Fact a) k b c out) b c) x ds ls) →
        OfArms S T kept Holds (OfArm S T kept Holds (OfGroups S T kept Holds k b c out) b c) x ds ls
    arms_gather x ds [] h = tt
    arms_gather x ds (l ∷ ls) h = (arm_gathers (those (opens_with x l) ds) (λ a. (h a).0), arms_gather x ds ls (λ a. (h a).1))

  groups_gather : (k : ℕ) → Gathers k
  groups_gather zero b c out ds h = tt
  groups_gather (suc k) b c out ds h = at (chosen S T out b ds) h (groups_gather k)
    where
      at : (o : Option ℕ) → ((a : A) → OfChosen S T kept (Fact a) (λ out. OfArm S T kept (Fact a) (OfGroups S T kept (Fact a) k b c out) b c) out ds o) → Gathers k →
          OfChosen S T kept Holds (λ out. OfArm S T kept Holds (OfGroups S T kept Holds k b c out) b c) out ds o
      at None h rec = tt
      at (Some x) h rec = arms_gather k rec b c (x ∷ out) x ds (labels_of x ds) h

  mutual
    pub node_gathers : (b : Insts) (n : Node) → ((a : A) → OfEachGroup S T kept (Fact a) b n) → OfEachGroup S T kept Holds b n
    node_gathers b (node s changes d m) h = in_gathers b (insts_after (node s changes d m) b) s h

    in_gathers : (b c : Insts) (s : Scheduled) → ((a : A) → OfEachIn S T kept (Fact a) b c s) → OfEachIn S T kept Holds b c s
    in_gathers b c (Conj ns) h = all_gather b ns h
    in_gathers b c (Disj ns) h = (groups_gather (openings_of (disjuncts S T kept b ns)) b c [] (disjuncts S T kept b ns) (λ a. (h a).0), each_gathers b ns (λ a. (h a).1))
    in_gathers b c (Switch x arms) h = tt
    in_gathers b c (Ite vs n t e) h = (node_gathers b n (λ a. (h a).0), node_gathers (insts_after n b) t (λ a. (h a).1), node_gathers b e (λ a. (h a).2))
    in_gathers b c (Not n) h = node_gathers b n h
    in_gathers b c (Exists vs n) h = node_gathers b n h
    in_gathers b c (Assign x y) h = tt
    in_gathers b c (Test x y) h = tt
    in_gathers b c (Build x s ys) h = tt
    in_gathers b c (Take x s ys) h = tt
    in_gathers b c (Const x v) h = tt
    in_gathers b c (TestConst x v) h = tt
    in_gathers b c (Call p xs implied last) h = tt
    in_gathers b c (Apply op xs ys) h = tt

    all_gather : (b : Insts) (ns : Nodes) → ((a : A) → OfEachInAll S T kept (Fact a) b ns) → OfEachInAll S T kept Holds b ns
    all_gather b no_nodes h = tt
    all_gather b (node_then n ns) h = (node_gathers b n (λ a. (h a).0), all_gather (insts_after n b) ns (λ a. (h a).1))

    each_gathers : (b : Insts) (ns : Nodes) → ((a : A) → OfEachInEach S T kept (Fact a) b ns) → OfEachInEach S T kept Holds b ns
    each_gathers b no_nodes h = tt
    each_gathers b (node_then n ns) h = (node_gathers b n (λ a. (h a).0), each_gathers b ns (λ a. (h a).1))
