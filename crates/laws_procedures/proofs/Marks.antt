-- Marks for pruned goals stay where goals are marked with their determinisms, and go by the program, the insts and
-- which procedures never answer.
use Rattle.std.proofs.Common.{◌≡◌, ℕ, List, ◌++◌, Bool, not, ◌&&◌, ◌||◌, refl, sym, ap, ap₂, ◌∙◌, subst}
use Rattle.mc_program.specs.Programs.{TypeTerm}
use Rattle.mc_source.specs.Determinism.{is_zero}
use Rattle.mc_model.specs.Scheduled.{Node, node, Scheduled, Conj, Disj, Switch, Ite, Not, Exists, Assign, Test, Build, Take, Const, TestConst, Call, Apply, Nodes, no_nodes, node_then, Arms, no_arms, arm_then}
use Rattle.mc_model.specs.Good.{System}
use Rattle.mc_accepted.specs.Ordered.{Insts, binds_one, change_at, variables_of_node, variables_of_nodes}
use Rattle.mc_accepted.specs.Determined.{Known, allows_name, excludes, learned, insts_after}
use Rattle.mc_accepted.specs.MergedArms.{takes_constants, never_ends, never_ends_in, one_never_ends, each_never_ends, each_arm_never_ends}
use Rattle.mc_accepted.specs.PrunedMarks.{is_marked, KeepsMarks, MarksInside, AllKeepMarks, EachKeepsMarks, ArmsKeepMarks}
use Rattle.mc_det.specs.Marked.{marked, marked_in, marked_all, marked_each, marked_arms}
use Rattle.laws_accepted.proofs.Retelling.{never_told, told_after}
use Rattle.laws_accepted.proofs.Telling.{told_variables, told_variables_all}
use Rattle.laws_procedures.proofs.Retold.{marked_told, marked_told_all}

-- two systems whose goals end alike
pub record EndAlike (R S : System) : Type 0 where
  pub source : R.world.source ≡ S.world.source
  pub insts : R.insts ≡ S.insts
  pub never : (k : ℕ) → is_zero (R.procs k).det.most ≡ is_zero (S.procs k).det.most

module _ (R S : System) (T : ℕ → TypeTerm) (alike : EndAlike R S) where
  excludes_same : (i s : ℕ) → excludes R T i s ≡ excludes S T i s
  excludes_same i s = ap₂ (λ P G. not (allows_name (G i) (P.symbols s).name)) alike.source alike.insts

  mutual
    pub never_same : (b : Insts) (n : Node) → never_ends R T b n ≡ never_ends S T b n
    never_same b (node s changes d m) = never_same_in b s

    never_same_in : (b : Insts) (s : Scheduled) → never_ends_in R T b s ≡ never_ends_in S T b s
    never_same_in b (Conj ns) = one_same b ns
    never_same_in b (Disj ns) = each_same b ns
    never_same_in b (Switch x arms) = arms_same b arms
    never_same_in b (Ite vs c t e) =
        ap₂ (λ (u v : Bool). u && v) (ap₂ (λ (u v : Bool). u || v) (never_same b c) (never_same (insts_after c b) t)) (never_same b e)
    never_same_in b (Not n) = refl
    never_same_in b (Exists vs n) = never_same b n
    never_same_in b (Assign x y) = refl
    never_same_in b (Test x y) = refl
    never_same_in b (Build x s ys) = refl
    never_same_in b (Take x s ys) = excludes_same (b x) s
    never_same_in b (Const x v) = refl
    never_same_in b (TestConst x v) = ap (λ G. not (takes_constants (G (b x)))) alike.insts
    never_same_in b (Call p xs implied last) = alike.never p
    never_same_in b (Apply op xs ys) = refl

    one_same : (b : Insts) (ns : Nodes) → one_never_ends R T b ns ≡ one_never_ends S T b ns
    one_same b no_nodes = refl
    one_same b (node_then n ns) = ap₂ (λ (u v : Bool). u || v) (never_same b n) (one_same (insts_after n b) ns)

    each_same : (b : Insts) (ns : Nodes) → each_never_ends R T b ns ≡ each_never_ends S T b ns
    each_same b no_nodes = refl
    each_same b (node_then n ns) = ap₂ (λ (u v : Bool). u && v) (never_same b n) (each_same b ns)

    arms_same : (b : Insts) (arms : Arms) → each_arm_never_ends R T b arms ≡ each_arm_never_ends S T b arms
    arms_same b no_arms = refl
    arms_same b (arm_then l n arms) = ap₂ (λ (u v : Bool). u && v) (never_same b n) (arms_same b arms)

  -- of goals that are marked with determinisms in a third system
  module _ (U : System) (V : ℕ → TypeTerm) where
    never_marked : (b c : Insts) (known : Known) (n : Node) → never_ends R T b n ≡ never_ends S T b (marked U V c known n)
    never_marked b c known n = never_same b n ∙ never_told S T (marked_told U V c known n) b

    unmarked_stay : (c : Insts) (known : Known) (n : Node) → is_marked (marked U V c known n) ≡ is_marked n
    unmarked_stay c known (node s changes d m) = refl

    mutual
      pub marks_stay : (Q : List ℕ) (b c : Insts) (known : Known) (n : Node) → KeepsMarks R T Q b n → KeepsMarks S T Q b (marked U V c known n)
      marks_stay Q b c known (node s changes d m) h = (
        h.0 ∙ ap (λ v. not (v || binds_one Q b (λ x. change_at x changes (b x)))) (never_marked b c known (node s changes d m)),
        marks_stay_in Q b c known s h.1,
      )

      marks_stay_in : (Q : List ℕ) (b c : Insts) (known : Known) (s : Scheduled) → MarksInside R T Q b s → MarksInside S T Q b (marked_in U V c known s)
      marks_stay_in Q b c known (Conj ns) h = marks_stay_all Q b c known ns h
      marks_stay_in Q b c known (Disj ns) h = marks_stay_each Q b c known ns h
      marks_stay_in Q b c known (Switch x arms) h = marks_stay_arms Q b c known x arms h
      marks_stay_in Q b c known (Ite vs i t e) h =
          let k : Node = marked U V c known i in
          let u : Node = marked U V (insts_after i c) known t in (
            subst (λ (xs : List ℕ). KeepsMarks S T (Q ++ xs) b k) (sym (told_variables (marked_told U V (insts_after i c) known t))) (marks_stay (Q ++ variables_of_node t) b c known i h.0),
            (λ e.
                subst (λ (xs : List ℕ). KeepsMarks S T (Q ++ xs) (insts_after k b) u) (sym (told_variables (marked_told U V c known i)))
                (subst (λ (a : Insts). KeepsMarks S T (Q ++ variables_of_node i) a u) (sym (told_after (marked_told U V c known i) b))
                (marks_stay (Q ++ variables_of_node i) (insts_after i b) (insts_after i c) known t (h.1 (never_marked b c known i ∙ e))))),
            (λ e. unmarked_stay (insts_after i c) known t ∙ h.2 (never_marked b c known i ∙ e)),
            marks_stay Q b c known e h.3,
          )
      marks_stay_in Q b c known (Not n) h = marks_stay Q b c known n h
      marks_stay_in Q b c known (Exists vs n) h = marks_stay Q b c known n h
      marks_stay_in Q b c known (Assign x y) h = tt
      marks_stay_in Q b c known (Test x y) h = tt
      marks_stay_in Q b c known (Build x s ys) h = tt
      marks_stay_in Q b c known (Take x s ys) h = tt
      marks_stay_in Q b c known (Const x v) h = tt
      marks_stay_in Q b c known (TestConst x v) h = tt
      marks_stay_in Q b c known (Call p xs implied last) h = tt
      marks_stay_in Q b c known (Apply op xs ys) h = tt

      marks_stay_all : (Q : List ℕ) (b c : Insts) (known : Known) (ns : Nodes) → AllKeepMarks R T Q b ns → AllKeepMarks S T Q b (marked_all U V c known ns)
      marks_stay_all Q b c known no_nodes h = tt
      marks_stay_all Q b c known (node_then n ns) h =
          let k : Node = marked U V c known n in
          let ks : Nodes = marked_all U V (insts_after n c) known ns in (
            subst (λ (xs : List ℕ). KeepsMarks S T (Q ++ xs) b k) (sym (told_variables_all (marked_told_all U V (insts_after n c) known ns))) (marks_stay (Q ++ variables_of_nodes ns) b c known n h.0),
            subst (λ (xs : List ℕ). AllKeepMarks S T (Q ++ xs) (insts_after k b) ks) (sym (told_variables (marked_told U V c known n)))
                (subst (λ (a : Insts). AllKeepMarks S T (Q ++ variables_of_node n) a ks) (sym (told_after (marked_told U V c known n) b))
                (marks_stay_all (Q ++ variables_of_node n) (insts_after n b) (insts_after n c) known ns h.1)),
          )

      marks_stay_each : (Q : List ℕ) (b c : Insts) (known : Known) (ns : Nodes) → EachKeepsMarks R T Q b ns → EachKeepsMarks S T Q b (marked_each U V c known ns)
      marks_stay_each Q b c known no_nodes h = tt
      marks_stay_each Q b c known (node_then n ns) h = (marks_stay Q b c known n h.0, marks_stay_each Q b c known ns h.1)

      marks_stay_arms : (Q : List ℕ) (b c : Insts) (known : Known) (x : ℕ) (arms : Arms) → ArmsKeepMarks R T Q b arms → ArmsKeepMarks S T Q b (marked_arms U V c known x arms)
      marks_stay_arms Q b c known x no_arms h = tt
      marks_stay_arms Q b c known x (arm_then l n arms) h =
          (marks_stay Q b c (learned x l known) n h.0, marks_stay_arms Q b c known x arms h.1)
