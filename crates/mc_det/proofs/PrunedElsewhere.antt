-- A procedure is pruned the same whichever others stand beside it, of which the same is declared.
use Rattle.std.proofs.Common.{◌≡◌, ℕ, zero, suc, List, [], ◌∷◌, ◌++◌, get_or, set, Bool, not, ◌||◌, ◌&&◌, Option, refl, sym, ap, ap₂, ◌∙◌}
use Rattle.mc_program.specs.Programs.{TypeTerm}
use Rattle.mc_source.specs.Determinism.{is_zero}
use Rattle.mc_source.specs.declared.det.Det.{Det}
use Rattle.mc_model.specs.Truth.{World}
use Rattle.mc_model.specs.Insts.{Graph}
use Rattle.mc_model.specs.Scheduled.{Node, node, Scheduled, Conj, Disj, Switch, Ite, Not, Exists, Assign, Test, Build, Take, Const, TestConst, Call, Apply, Nodes, no_nodes, node_then, Arms, no_arms, arm_then, Procedure}
use Rattle.mc_model.specs.PlainGoals.{plain_proc}
use Rattle.mc_model.specs.Good.{System}
use Rattle.mc_model.specs.declared.sched.Proc.{Proc}
use Rattle.mc_accepted.specs.Accepted.{entered}
use Rattle.mc_accepted.specs.Determined.{insts_after}
use Rattle.mc_accepted.specs.Fits.{type_of}
use Rattle.mc_accepted.specs.Inferred.{with_determinisms}
use Rattle.mc_accepted.specs.MergedArms.{never_ends, never_ends_in, one_never_ends, each_never_ends, each_arm_never_ends}
use Rattle.mc_accepted.specs.Ordered.{Insts, binds_one, variables_of_node, variables_of_nodes}
use Rattle.mc_procs.specs.Procedures.{PlainProcs, as_system, with_procs}
use Rattle.mc_det.specs.Determinisms.{declared_procedure}
use Rattle.mc_det.specs.Pruned.{then_reached, pruned_node, pruned_in, pruned_all, pruned_each, pruned_arms}
use Rattle.mc_det.specs.PrunedProcedures.{FollowDeclared, IsPruned}

module _ (world : World) (insts : Graph) (m n : ℕ) (f g : ℕ → Procedure) (same : (k : ℕ) → (f k).det ≡ (g k).det) (T : ℕ → TypeTerm) where
  abbrev A : System
  A = record { world = world; count = m; procs = f; insts = insts }

  abbrev B : System
  B = record { world = world; count = n; procs = g; insts = insts }

  mutual
    same_end : (b : Insts) (t : Node) → never_ends A T b t ≡ never_ends B T b t
    same_end b (node s changes d p) = end_in b s

    end_in : (b : Insts) (s : Scheduled) → never_ends_in A T b s ≡ never_ends_in B T b s
    end_in b (Conj ns) = end_all b ns
    end_in b (Disj ns) = end_each b ns
    end_in b (Switch x arms) = end_arms b arms
    end_in b (Ite vs c t e) = ap₂ (λ (x y : Bool). x && y) (ap₂ (λ (x y : Bool). x || y) (same_end b c) (same_end (insts_after c b) t)) (same_end b e)
    end_in b (Not t) = refl
    end_in b (Exists vs t) = same_end b t
    end_in b (Assign x y) = refl
    end_in b (Test x y) = refl
    end_in b (Build x s ys) = refl
    end_in b (Take x s ys) = refl
    end_in b (Const x v) = refl
    end_in b (TestConst x v) = refl
    end_in b (Call p xs implied last) = ap (λ (d : Det). is_zero d.most) (same p)
    end_in b (Apply op xs ys) = refl

    end_all : (b : Insts) (ns : Nodes) → one_never_ends A T b ns ≡ one_never_ends B T b ns
    end_all b no_nodes = refl
    end_all b (node_then t ns) = ap₂ (λ (x y : Bool). x || y) (same_end b t) (end_all (insts_after t b) ns)

    end_each : (b : Insts) (ns : Nodes) → each_never_ends A T b ns ≡ each_never_ends B T b ns
    end_each b no_nodes = refl
    end_each b (node_then t ns) = ap₂ (λ (x y : Bool). x && y) (same_end b t) (end_each b ns)

    end_arms : (b : Insts) (arms : Arms) → each_arm_never_ends A T b arms ≡ each_arm_never_ends B T b arms
    end_arms b no_arms = refl
    end_arms b (arm_then l t arms) = ap₂ (λ (x y : Bool). x && y) (same_end b t) (end_arms b arms)

  mutual
    same_node : (Q : List ℕ) (b : Insts) (t : Node) → pruned_node A T Q b t ≡ pruned_node B T Q b t
    same_node Q b (node s changes d p) =
        let t : Node = node s changes d p in
        ap₂ (λ (u : Scheduled) (v : Bool). node u changes d (not (v || binds_one Q b (insts_after t b)))) (same_in Q b s) (same_end b t)

    same_in : (Q : List ℕ) (b : Insts) (s : Scheduled) → pruned_in A T Q b s ≡ pruned_in B T Q b s
    same_in Q b (Conj ns) = ap Conj (same_all Q b ns)
    same_in Q b (Disj ns) = ap Disj (same_each Q b ns)
    same_in Q b (Switch x arms) = ap (Switch x) (same_arms Q b arms)
    same_in Q b (Ite vs c t e) =
        let W : List ℕ = Q ++ variables_of_node c in
        ap₂ (λ (k l : Node). Ite vs k (then_reached (never_ends A T b c) l) (pruned_node A T Q b e)) (same_node (Q ++ variables_of_node t) b c) (same_node W (insts_after c b) t)
        ∙ ap₂ (λ (v : Bool) (k : Node). Ite vs (pruned_node B T (Q ++ variables_of_node t) b c) (then_reached v (pruned_node B T W (insts_after c b) t)) k) (same_end b c) (same_node Q b e)
    same_in Q b (Not t) = ap Not (same_node Q b t)
    same_in Q b (Exists vs t) = ap (Exists vs) (same_node Q b t)
    same_in Q b (Assign x y) = refl
    same_in Q b (Test x y) = refl
    same_in Q b (Build x s ys) = refl
    same_in Q b (Take x s ys) = refl
    same_in Q b (Const x v) = refl
    same_in Q b (TestConst x v) = refl
    same_in Q b (Call p xs implied last) = refl
    same_in Q b (Apply op xs ys) = refl

    same_all : (Q : List ℕ) (b : Insts) (ns : Nodes) → pruned_all A T Q b ns ≡ pruned_all B T Q b ns
    same_all Q b no_nodes = refl
    same_all Q b (node_then t ns) = ap₂ node_then (same_node (Q ++ variables_of_nodes ns) b t) (same_all (Q ++ variables_of_node t) (insts_after t b) ns)

    same_each : (Q : List ℕ) (b : Insts) (ns : Nodes) → pruned_each A T Q b ns ≡ pruned_each B T Q b ns
    same_each Q b no_nodes = refl
    same_each Q b (node_then t ns) = ap₂ node_then (same_node Q b t) (same_each Q b ns)

    same_arms : (Q : List ℕ) (b : Insts) (arms : Arms) → pruned_arms A T Q b arms ≡ pruned_arms B T Q b arms
    same_arms Q b no_arms = refl
    same_arms Q b (arm_then l t arms) = ap₂ (arm_then l) (same_node Q b t) (same_arms Q b arms)

-- what is declared of procedures
abbrev pub declared_in : List Proc → ℕ → Option Det
declared_in ps k = (declared_procedure ps k).declared

abbrev pub AlikeDeclared : (ps rs : List Proc) → Type 0
AlikeDeclared ps rs = (k : ℕ) → declared_in rs k ≡ declared_in ps k

-- another procedure of which the same is declared comes into the place of one
pub declared_stays : (ps : List Proc) (k : ℕ) (x : Proc) → x.declared ≡ (get_or ps k x).declared → AlikeDeclared ps (set ps k x)
declared_stays [] k x e j = refl
declared_stays (p ∷ ps) zero x e zero = e
declared_stays (p ∷ ps) zero x e (suc j) = refl
declared_stays (p ∷ ps) (suc k) x e zero = refl
declared_stays (p ∷ ps) (suc k) x e (suc j) = declared_stays ps k x e j

pub pruned_elsewhere : (q : PlainProcs) (rs : List Proc) (p x : Proc) → AlikeDeclared q.added rs → IsPruned (with_procs q rs) p x → IsPruned q p x
pruned_elsewhere q rs p x alike m =
    let P = plain_proc p in
    record {
      others = m.others;
      body = λ outcome ds follow.
          let S : System = with_determinisms (as_system outcome q) ds in
          let R : System = with_determinisms (as_system outcome (with_procs q rs)) ds in
          let too : FollowDeclared (with_procs q rs) ds = record {
            declared = λ k d e. follow.declared k d (sym (alike k) ∙ e);
            at_least_det = λ k e. follow.at_least_det k (sym (alike k) ∙ e);
            uncommitted = λ k e. follow.uncommitted k (sym (alike k) ∙ e);
          } in
          m.body outcome ds too
          ∙ same_node S.world S.insts R.count S.count R.procs S.procs (λ k. refl) (type_of S P) P.head (entered P.head P.first) P.body;
    }
