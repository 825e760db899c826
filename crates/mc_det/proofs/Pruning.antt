-- Marks for pruned goals change nothing that tells where they stand, and are kept.
use Rattle.std.proofs.Common.{◌≡◌, ℕ, List, ◌∷◌, ◌++◌, Bool, true, false, not, ◌||◌, ◌&&◌, refl, sym, ap, ap₂, ◌∙◌, subst, true≢false}
use Rattle.mc_program.specs.Programs.{TypeTerm}
use Rattle.mc_model.specs.Scheduled.{Node, node, Scheduled, Conj, Disj, Switch, Ite, Not, Exists, Assign, Test, Build, Take, Const, TestConst, Call, Apply, Nodes, no_nodes, node_then, Arms, no_arms, arm_then}
use Rattle.mc_model.specs.Good.{System}
use Rattle.mc_accepted.specs.Ordered.{Insts, binds_one, variables_of_node, variables_of_scheduled, variables_of_nodes, variables_of_arms}
use Rattle.mc_accepted.specs.Determined.{insts_after}
use Rattle.mc_accepted.specs.Fits.{type_of}
use Rattle.mc_accepted.specs.Accepted.{entered}
use Rattle.mc_accepted.specs.MergedArms.{never_ends, never_ends_in, one_never_ends, each_never_ends, each_arm_never_ends}
use Rattle.mc_accepted.specs.PrunedMarks.{is_marked, mark_of, KeepsMarks, MarksInside, AllKeepMarks, EachKeepsMarks, ArmsKeepMarks}
use Rattle.mc_det.specs.Pruned.{unpruned, then_reached, pruned_node, pruned_in, pruned_all, pruned_each, pruned_arms, PrunedKeepMarks}

-- a part that is reached or isn't
reached_after : (v : Bool) (n : Node) (c : Insts) → insts_after (then_reached v n) c ≡ insts_after n c
reached_after true (node s changes d m) c = refl
reached_after false n c = refl

reached_variables : (v : Bool) (n : Node) → variables_of_node (then_reached v n) ≡ variables_of_node n
reached_variables true (node s changes d m) = refl
reached_variables false n = refl

not_marked : (n : Node) → is_marked (unpruned n) ≡ false
not_marked (node s changes d m) = refl

module _ (S : System) (T : ℕ → TypeTerm) where
  pub after_pruned : (Q : List ℕ) (b : Insts) (n : Node) (c : Insts) → insts_after (pruned_node S T Q b n) c ≡ insts_after n c
  after_pruned Q b (node s changes d m) c = refl

  -- variables stay
  mutual
    pub same_variables : (Q : List ℕ) (b : Insts) (n : Node) → variables_of_node (pruned_node S T Q b n) ≡ variables_of_node n
    same_variables Q b (node s changes d m) = same_variables_in Q b s

    same_variables_in : (Q : List ℕ) (b : Insts) (s : Scheduled) → variables_of_scheduled (pruned_in S T Q b s) ≡ variables_of_scheduled s
    same_variables_in Q b (Conj ns) = same_variables_all Q b ns
    same_variables_in Q b (Disj ns) = same_variables_each Q b ns
    same_variables_in Q b (Switch x arms) = ap (λ (l : List ℕ). x ∷ l) (same_variables_arms Q b arms)
    same_variables_in Q b (Ite vs c t e) =
        ap (λ (l : List ℕ). vs ++ l)
        (ap₂ (λ (k l : List ℕ). k ++ l) (same_variables (Q ++ variables_of_node t) b c)
        (ap₂ (λ (k l : List ℕ). k ++ l)
        (reached_variables (never_ends S T b c) (pruned_node S T (Q ++ variables_of_node c) (insts_after c b) t) ∙ same_variables (Q ++ variables_of_node c) (insts_after c b) t)
        (same_variables Q b e)))
    same_variables_in Q b (Not n) = same_variables Q b n
    same_variables_in Q b (Exists vs n) = ap (λ (l : List ℕ). vs ++ l) (same_variables Q b n)
    same_variables_in Q b (Assign x y) = refl
    same_variables_in Q b (Test x y) = refl
    same_variables_in Q b (Build x s ys) = refl
    same_variables_in Q b (Take x s ys) = refl
    same_variables_in Q b (Const x v) = refl
    same_variables_in Q b (TestConst x v) = refl
    same_variables_in Q b (Call p xs implied last) = refl
    same_variables_in Q b (Apply op xs ys) = refl

    pub same_variables_all : (Q : List ℕ) (b : Insts) (ns : Nodes) → variables_of_nodes (pruned_all S T Q b ns) ≡ variables_of_nodes ns
    same_variables_all Q b no_nodes = refl
    same_variables_all Q b (node_then n ns) =
        ap₂ (λ (k l : List ℕ). k ++ l) (same_variables (Q ++ variables_of_nodes ns) b n) (same_variables_all (Q ++ variables_of_node n) (insts_after n b) ns)

    same_variables_each : (Q : List ℕ) (b : Insts) (ns : Nodes) → variables_of_nodes (pruned_each S T Q b ns) ≡ variables_of_nodes ns
    same_variables_each Q b no_nodes = refl
    same_variables_each Q b (node_then n ns) = ap₂ (λ (k l : List ℕ). k ++ l) (same_variables Q b n) (same_variables_each Q b ns)

    same_variables_arms : (Q : List ℕ) (b : Insts) (arms : Arms) → variables_of_arms (pruned_arms S T Q b arms) ≡ variables_of_arms arms
    same_variables_arms Q b no_arms = refl
    same_variables_arms Q b (arm_then l n arms) = ap₂ (λ (k l : List ℕ). k ++ l) (same_variables Q b n) (same_variables_arms Q b arms)

  -- goals that never ended never end
  reached_never : (v : Bool) (b : Insts) (n : Node) → never_ends S T b (then_reached v n) ≡ never_ends S T b n
  reached_never true b (node s changes d m) = refl
  reached_never false b n = refl

  mutual
    pub same_never : (Q : List ℕ) (b : Insts) (n : Node) → never_ends S T b (pruned_node S T Q b n) ≡ never_ends S T b n
    same_never Q b (node s changes d m) = same_never_in Q b s

    same_never_in : (Q : List ℕ) (b : Insts) (s : Scheduled) → never_ends_in S T b (pruned_in S T Q b s) ≡ never_ends_in S T b s
    same_never_in Q b (Conj ns) = same_never_all Q b ns
    same_never_in Q b (Disj ns) = same_never_each Q b ns
    same_never_in Q b (Switch x arms) = same_never_arms Q b arms
    same_never_in Q b (Ite vs c t e) =
        let k : Node = pruned_node S T (Q ++ variables_of_node t) b c in
        let u : Node = pruned_node S T (Q ++ variables_of_node c) (insts_after c b) t in
        ap (λ (i : Insts). (never_ends S T b k || never_ends S T i (then_reached (never_ends S T b c) u)) && never_ends S T b (pruned_node S T Q b e)) (after_pruned (Q ++ variables_of_node t) b c b)
        ∙ ap₂ (λ (f g : Bool). f && g)
        (ap₂ (λ (f g : Bool). f || g) (same_never (Q ++ variables_of_node t) b c) (reached_never (never_ends S T b c) (insts_after c b) u ∙ same_never (Q ++ variables_of_node c) (insts_after c b) t))
        (same_never Q b e)
    same_never_in Q b (Not n) = refl
    same_never_in Q b (Exists vs n) = same_never Q b n
    same_never_in Q b (Assign x y) = refl
    same_never_in Q b (Test x y) = refl
    same_never_in Q b (Build x s ys) = refl
    same_never_in Q b (Take x s ys) = refl
    same_never_in Q b (Const x v) = refl
    same_never_in Q b (TestConst x v) = refl
    same_never_in Q b (Call p xs implied last) = refl
    same_never_in Q b (Apply op xs ys) = refl

    same_never_all : (Q : List ℕ) (b : Insts) (ns : Nodes) → one_never_ends S T b (pruned_all S T Q b ns) ≡ one_never_ends S T b ns
    same_never_all Q b no_nodes = refl
    same_never_all Q b (node_then n ns) =
        ap (λ (i : Insts). never_ends S T b (pruned_node S T (Q ++ variables_of_nodes ns) b n) || one_never_ends S T i (pruned_all S T (Q ++ variables_of_node n) (insts_after n b) ns)) (after_pruned (Q ++ variables_of_nodes ns) b n b)
        ∙ ap₂ (λ (f g : Bool). f || g) (same_never (Q ++ variables_of_nodes ns) b n) (same_never_all (Q ++ variables_of_node n) (insts_after n b) ns)

    same_never_each : (Q : List ℕ) (b : Insts) (ns : Nodes) → each_never_ends S T b (pruned_each S T Q b ns) ≡ each_never_ends S T b ns
    same_never_each Q b no_nodes = refl
    same_never_each Q b (node_then n ns) = ap₂ (λ (f g : Bool). f && g) (same_never Q b n) (same_never_each Q b ns)

    same_never_arms : (Q : List ℕ) (b : Insts) (arms : Arms) → each_arm_never_ends S T b (pruned_arms S T Q b arms) ≡ each_arm_never_ends S T b arms
    same_never_arms Q b no_arms = refl
    same_never_arms Q b (arm_then l n arms) = ap₂ (λ (f g : Bool). f && g) (same_never Q b n) (same_never_arms Q b arms)

  pub same_mark : (Q R : List ℕ) (b : Insts) (n : Node) → mark_of S T Q b (pruned_node S T R b n) ≡ mark_of S T Q b n
  same_mark Q R b n =
      ap₂ (λ (v : Bool) (i : Insts). not (v || binds_one Q b i)) (same_never R b n) (after_pruned R b n b)

  reached_keeps : (v : Bool) (Q : List ℕ) (b : Insts) (n : Node) → KeepsMarks S T Q b n → v ≡ false → KeepsMarks S T Q b (then_reached v n)
  reached_keeps true Q b n h e = absurd (true≢false e)
  reached_keeps false Q b n h e = h

  reached_unmarked : (v : Bool) (n : Node) → v ≡ true → is_marked (then_reached v n) ≡ false
  reached_unmarked true n e = not_marked n
  reached_unmarked false n e = absurd (true≢false (sym e))

  mutual
    pub keeps : (Q : List ℕ) (b : Insts) (n : Node) → KeepsMarks S T Q b (pruned_node S T Q b n)
    keeps Q b (node s changes d m) = (sym (same_mark Q Q b (node s changes d m)), keeps_in Q b s)

    keeps_in : (Q : List ℕ) (b : Insts) (s : Scheduled) → MarksInside S T Q b (pruned_in S T Q b s)
    keeps_in Q b (Conj ns) = keeps_all Q b ns
    keeps_in Q b (Disj ns) = keeps_each Q b ns
    keeps_in Q b (Switch x arms) = keeps_arms Q b arms
    keeps_in Q b (Ite vs c t e) =
        let k : Node = pruned_node S T (Q ++ variables_of_node t) b c in
        let u : Node = pruned_node S T (Q ++ variables_of_node c) (insts_after c b) t in
        let v : Bool = never_ends S T b c in
        let ends : never_ends S T b k ≡ v = same_never (Q ++ variables_of_node t) b c in (
          subst (λ (l : List ℕ). KeepsMarks S T (Q ++ l) b k) (sym (reached_variables v u ∙ same_variables (Q ++ variables_of_node c) (insts_after c b) t)) (keeps (Q ++ variables_of_node t) b c),
          (λ w.
              subst (λ (l : List ℕ). KeepsMarks S T (Q ++ l) (insts_after k b) (then_reached v u)) (sym (same_variables (Q ++ variables_of_node t) b c))
              (subst (λ (i : Insts). KeepsMarks S T (Q ++ variables_of_node c) i (then_reached v u)) (sym (after_pruned (Q ++ variables_of_node t) b c b))
              (reached_keeps v (Q ++ variables_of_node c) (insts_after c b) u (keeps (Q ++ variables_of_node c) (insts_after c b) t) (sym ends ∙ w)))),
          (λ w. reached_unmarked v u (sym ends ∙ w)),
          keeps Q b e,
        )
    keeps_in Q b (Not n) = keeps Q b n
    keeps_in Q b (Exists vs n) = keeps Q b n
    keeps_in Q b (Assign x y) = tt
    keeps_in Q b (Test x y) = tt
    keeps_in Q b (Build x s ys) = tt
    keeps_in Q b (Take x s ys) = tt
    keeps_in Q b (Const x v) = tt
    keeps_in Q b (TestConst x v) = tt
    keeps_in Q b (Call p xs implied last) = tt
    keeps_in Q b (Apply op xs ys) = tt

    keeps_all : (Q : List ℕ) (b : Insts) (ns : Nodes) → AllKeepMarks S T Q b (pruned_all S T Q b ns)
    keeps_all Q b no_nodes = tt
    keeps_all Q b (node_then n ns) = (
      subst (λ (l : List ℕ). KeepsMarks S T (Q ++ l) b (pruned_node S T (Q ++ variables_of_nodes ns) b n)) (sym (same_variables_all (Q ++ variables_of_node n) (insts_after n b) ns)) (keeps (Q ++ variables_of_nodes ns) b n),
      subst (λ (l : List ℕ). AllKeepMarks S T (Q ++ l) (insts_after (pruned_node S T (Q ++ variables_of_nodes ns) b n) b) (pruned_all S T (Q ++ variables_of_node n) (insts_after n b) ns)) (sym (same_variables (Q ++ variables_of_nodes ns) b n))
          (subst (λ (i : Insts). AllKeepMarks S T (Q ++ variables_of_node n) i (pruned_all S T (Q ++ variables_of_node n) (insts_after n b) ns)) (sym (after_pruned (Q ++ variables_of_nodes ns) b n b))
          (keeps_all (Q ++ variables_of_node n) (insts_after n b) ns)),
    )

    keeps_each : (Q : List ℕ) (b : Insts) (ns : Nodes) → EachKeepsMarks S T Q b (pruned_each S T Q b ns)
    keeps_each Q b no_nodes = tt
    keeps_each Q b (node_then n ns) = (keeps Q b n, keeps_each Q b ns)

    keeps_arms : (Q : List ℕ) (b : Insts) (arms : Arms) → ArmsKeepMarks S T Q b (pruned_arms S T Q b arms)
    keeps_arms Q b no_arms = tt
    keeps_arms Q b (arm_then l n arms) = (keeps Q b n, keeps_arms Q b arms)

pub pruned_keep_marks : PrunedKeepMarks
pruned_keep_marks S p = keeps S (type_of S p) p.head (entered p.head p.first) p.body
