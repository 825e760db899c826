-- Marks that are kept tell where io stands.
use Rattle.std.proofs.Common.{◌≡◌, ℕ, Bool, not, ◌&&◌, ◌||◌, refl, ap, ap₂, ◌∙◌}
use Rattle.mc_program.specs.Programs.{TypeTerm}
use Rattle.mc_source.specs.Determinism.{Determinism, row_of}
use Rattle.mc_source.specs.declared.det.Det.{Det}
use Rattle.mc_model.specs.Scheduled.{Node, node, Scheduled, Conj, Disj, Switch, Ite, Not, Exists, Assign, Test, Build, Take, Const, TestConst, Call, Apply, Nodes, no_nodes, node_then, Arms, no_arms, arm_then, Procedure}
use Rattle.mc_model.specs.Good.{System}
use Rattle.mc_accepted.specs.Ordered.{Insts}
use Rattle.mc_accepted.specs.Determined.{Known, learned, insts_after, none_fails, no_disjunct_fails, is_io, is_io_in, one_is_io}
use Rattle.mc_accepted.specs.Fits.{type_of}
use Rattle.mc_accepted.specs.Accepted.{KeepsDeterminism, KeepsInside, AllKeep, EachKeeps, ArmsKeep}
use Rattle.mc_accepted.specs.DeterminismFaults.{is_wrong_io, misplaces_io, misplaces_io_in, all_misplace_io, each_misplaces_io, arms_misplace_io}
use Rattle.mc_det_rules.specs.code.Io.{none_fail, misplaces, misplaces_in, all_misplace, each_misplaces, arms_misplace}

module _ (S : System) (P : Procedure) where
  abbrev T : ℕ → TypeTerm
  T = type_of S P

  pub none_told : (b : Insts) (known : Known) (ns : Nodes) → AllKeep S P b known ns → none_fail ns ≡ none_fails S T b known ns
  none_told b known no_nodes k = refl
  none_told b known (node_then (node s changes d m) ns) k =
      ap₂ (λ (x y : Bool). not x && y) (ap (λ (t : Det). t.can_fail) k.0.0) (none_told (insts_after (node s changes d m) b) known ns k.1)

  pub each_told : (b : Insts) (known : Known) (ns : Nodes) → EachKeeps S P b known ns → none_fail ns ≡ no_disjunct_fails S T b known ns
  each_told b known no_nodes k = refl
  each_told b known (node_then (node s changes d m) ns) k =
      ap₂ (λ (x y : Bool). not x && y) (ap (λ (t : Det). t.can_fail) k.0.0) (each_told b known ns k.1)

  mutual
    pub io_told : (b : Insts) (known : Known) (first : Bool) (n : Node) → KeepsDeterminism S P b known n → misplaces S T first n ≡ misplaces_io S T b known first n
    io_told b known first (node s changes d m) k =
        ap₂ (λ (r : Determinism) (t : Bool). is_wrong_io (is_io_in S T s) first m r || t) (ap row_of k.0) (io_in b known (first || m) s k.1)

    io_in : (b : Insts) (known : Known) (first : Bool) (s : Scheduled) → KeepsInside S P b known s → misplaces_in S T first s ≡ misplaces_io_in S T b known first s
    io_in b known first (Conj ns) k = io_all b known first ns k
    io_in b known first (Disj ns) k =
        ap₂ (λ (x y : Bool). (first && (one_is_io S T ns && not x)) || y) (each_told b known ns k) (io_each b known first ns k)
    io_in b known first (Switch x arms) k = io_arms b known first x arms k
    io_in b known first (Ite vs c t e) k =
        ap₂ (λ (x y : Bool). is_io S T c || (x || y)) (io_told (insts_after c b) known first t k.1) (io_told b known first e k.2)
    io_in b known first (Not n) k = refl
    io_in b known first (Exists vs n) k = io_told b known first n k
    io_in b known first (Assign x y) k = refl
    io_in b known first (Test x y) k = refl
    io_in b known first (Build x s ys) k = refl
    io_in b known first (Take x s ys) k = refl
    io_in b known first (Const x v) k = refl
    io_in b known first (TestConst x v) k = refl
    io_in b known first (Call p xs implied last) k = refl
    io_in b known first (Apply op xs ys) k = refl

    io_all : (b : Insts) (known : Known) (first : Bool) (ns : Nodes) → AllKeep S P b known ns → all_misplace S T first ns ≡ all_misplace_io S T b known first ns
    io_all b known first no_nodes k = refl
    io_all b known first (node_then n ns) k =
        ap (λ (x : Bool). misplaces S T (first && x) n || all_misplace S T first ns) (none_told (insts_after n b) known ns k.1)
        ∙ ap₂ (λ (x y : Bool). x || y) (io_told b known (first && none_fails S T (insts_after n b) known ns) n k.0) (io_all (insts_after n b) known first ns k.1)

    io_each : (b : Insts) (known : Known) (first : Bool) (ns : Nodes) → EachKeeps S P b known ns → each_misplaces S T first ns ≡ each_misplaces_io S T b known first ns
    io_each b known first no_nodes k = refl
    io_each b known first (node_then n ns) k = ap₂ (λ (x y : Bool). x || y) (io_told b known first n k.0) (io_each b known first ns k.1)

    io_arms : (b : Insts) (known : Known) (first : Bool) (x : ℕ) (arms : Arms) → ArmsKeep S P b known x arms → arms_misplace S T first arms ≡ arms_misplace_io S T b known first x arms
    io_arms b known first x no_arms k = refl
    io_arms b known first x (arm_then l n arms) k = ap₂ (λ (x y : Bool). x || y) (io_told b (learned x l known) first n k.0) (io_arms b known first x arms k.1)
