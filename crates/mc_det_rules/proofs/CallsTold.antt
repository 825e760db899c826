-- Marks that are kept tell which committed call is misplaced.
use Rattle.std.proofs.Common.{◌≡◌, ℕ, Bool, true, not, ◌&&◌, ◌||◌, refl, ap, ap₂, ◌∙◌}
use Rattle.std.specs.Option.{option_or}
use Rattle.mc_program.specs.Programs.{TypeTerm}
use Rattle.mc_source.specs.declared.det.Det.{Det}
use Rattle.mc_model.specs.Scheduled.{Node, node, Scheduled, Conj, Disj, Switch, Ite, Not, Exists, Assign, Test, Build, Take, Const, TestConst, Call, Apply, Nodes, no_nodes, node_then, Arms, no_arms, arm_then, Procedure}
use Rattle.mc_model.specs.Good.{System}
use Rattle.mc_accepted.specs.Ordered.{Insts, binds_one, variables_of_node}
use Rattle.mc_accepted.specs.Determined.{Known, learned, insts_after, none_fails}
use Rattle.mc_accepted.specs.Fits.{type_of}
use Rattle.mc_accepted.specs.Accepted.{KeepsDeterminism, KeepsInside, AllKeep, EachKeeps, ArmsKeep}
use Rattle.mc_accepted.specs.DeterminismFaults.{condition_first, first_misplaced, first_misplaced_in, misplaced_of_all, misplaced_of_each, misplaced_of_arms}
use Rattle.mc_det_rules.specs.code.Calls.{first_of, misplaced, misplaced_in, one_of_all, one_of_each, one_of_arms}
use Rattle.mc_det_rules.proofs.IoTold.{none_told}

module _ (S : System) (P : Procedure) where
  abbrev T : ℕ → TypeTerm
  T = type_of S P

  condition_told : (b : Insts) (known : Known) (first : Bool) (c t : Node) → KeepsDeterminism S P (insts_after c b) known t → first_of b first c t ≡ condition_first S T b known first c t
  condition_told b known first c (node s changes d m) k =
      ap (λ (x : Bool). not (binds_one (variables_of_node (node s changes d m)) b (insts_after c b)) || (first && not x)) (ap (λ (t : Det). t.can_fail) k.0)

  mutual
    pub calls_told : (b : Insts) (known : Known) (first : Bool) (n : Node) → KeepsDeterminism S P b known n → misplaced S.procs b first n ≡ first_misplaced S T b known first n
    calls_told b known first (node s changes d m) k = calls_in b known (first || m) s k.1

    calls_in : (b : Insts) (known : Known) (first : Bool) (s : Scheduled) → KeepsInside S P b known s → misplaced_in S.procs b first s ≡ first_misplaced_in S T b known first s
    calls_in b known first (Conj ns) k = calls_all b known first ns k
    calls_in b known first (Disj ns) k = calls_each b known first ns k
    calls_in b known first (Switch x arms) k = calls_arms b known first x arms k
    calls_in b known first (Ite vs c t e) k =
        ap (λ (f : Bool). option_or (misplaced S.procs b f c) (option_or (misplaced S.procs (insts_after c b) first t) (misplaced S.procs b first e))) (condition_told b known first c t k.1)
        ∙ ap₂ option_or (calls_told b known (condition_first S T b known first c t) c k.0)
        (ap₂ option_or (calls_told (insts_after c b) known first t k.1) (calls_told b known first e k.2))
    calls_in b known first (Not n) k = calls_told b known true n k
    calls_in b known first (Exists vs n) k = calls_told b known first n k
    calls_in b known first (Assign x y) k = refl
    calls_in b known first (Test x y) k = refl
    calls_in b known first (Build x s ys) k = refl
    calls_in b known first (Take x s ys) k = refl
    calls_in b known first (Const x v) k = refl
    calls_in b known first (TestConst x v) k = refl
    calls_in b known first (Call p xs implied last) k = refl
    calls_in b known first (Apply op xs ys) k = refl

    calls_all : (b : Insts) (known : Known) (first : Bool) (ns : Nodes) → AllKeep S P b known ns → one_of_all S.procs b first ns ≡ misplaced_of_all S T b known first ns
    calls_all b known first no_nodes k = refl
    calls_all b known first (node_then n ns) k =
        ap (λ (x : Bool). option_or (misplaced S.procs b (first && x) n) (one_of_all S.procs (insts_after n b) first ns)) (none_told S P (insts_after n b) known ns k.1)
        ∙ ap₂ option_or (calls_told b known (first && none_fails S T (insts_after n b) known ns) n k.0) (calls_all (insts_after n b) known first ns k.1)

    calls_each : (b : Insts) (known : Known) (first : Bool) (ns : Nodes) → EachKeeps S P b known ns → one_of_each S.procs b first ns ≡ misplaced_of_each S T b known first ns
    calls_each b known first no_nodes k = refl
    calls_each b known first (node_then n ns) k = ap₂ option_or (calls_told b known first n k.0) (calls_each b known first ns k.1)

    calls_arms : (b : Insts) (known : Known) (first : Bool) (x : ℕ) (arms : Arms) → ArmsKeep S P b known x arms → one_of_arms S.procs b first arms ≡ misplaced_of_arms S T b known first x arms
    calls_arms b known first x no_arms k = refl
    calls_arms b known first x (arm_then l n arms) k = ap₂ option_or (calls_told b (learned x l known) first n k.0) (calls_arms b known first x arms k.1)
