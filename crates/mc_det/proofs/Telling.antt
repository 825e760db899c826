-- What the marks of parts tell of a goal, and copies as they come one after another.
use Rattle.std.proofs.Math.Seq.{drop-cons}
use Rattle.std.proofs.Common.{◌≡◌, ℕ, suc, ◌<◌, List, [], ◌∷◌, ◌++◌, length, get_or, drop, map, Bool, true, false, not, IsTrue, if◌then◌else◌, refl, sym, ap, ap₂, ◌∙◌}
use Rattle.mc_program.specs.Programs.{TypeTerm}
use Rattle.mc_source.specs.Determinism.{Determinism, row_of, conj, disj, semidet}
use Rattle.mc_model.specs.Scheduled.{Node, node, nodes, Nodes, no_nodes, node_then, Label, Arms, no_arms, arm_then}
use Rattle.mc_model.specs.PlainGoals.{plain_node, plain_arm, arms_of}
use Rattle.mc_model.specs.Good.{System}
use Rattle.mc_model.specs.declared.sched.GoalNode.{GoalNode}
use Rattle.mc_model.specs.declared.sched.Arm.{Arm}
use Rattle.mc_accepted.specs.Ordered.{Insts}
use Rattle.mc_accepted.specs.Determined.{Known, learned, insts_after, then_tests, determined, determined_all, determined_any, determined_arms}
use Rattle.mc_accepted.specs.Inferred.{join}
use Rattle.mc_procs.proofs.Views.{plain_node-open, plain_arm-open}
use Rattle.mc_det.specs.Marked.{marked, marked_all, marked_each, marked_arms}
use Rattle.mc_det.proofs.Skeletons.{tests_tell}
use Rattle.mc_det.specs.code.Marks.{mark_of, all_told, any_told, arms_told}

-- a copy brings its determinism
pub mark_open : (g : GoalNode) → mark_of (plain_node g) ≡ row_of g.det
mark_open g = ap mark_of (plain_node-open g)

module _ (S : System) (type : ℕ → TypeTerm) where
  pub mark_told : (b : Insts) (known : Known) (n : Node) → mark_of (marked S type b known n) ≡ determined S type b known n
  mark_told b known (node s changes d m) = refl

  pub all_tell : (b : Insts) (known : Known) (ns : Nodes) → all_told (marked_all S type b known ns) ≡ determined_all S type b known ns
  all_tell b known no_nodes = refl
  all_tell b known (node_then n ns) = ap₂ conj (mark_told b known n) (all_tell (insts_after n b) known ns)

  pub any_tell : (b : Insts) (known : Known) (ns : Nodes) → any_told (marked_each S type b known ns) ≡ determined_any S type b known ns
  any_tell b known no_nodes = refl
  any_tell b known (node_then n ns) = ap₂ disj (mark_told b known n) (any_tell b known ns)

  pub arms_tell : (b : Insts) (known : Known) (x : ℕ) (arms : Arms) → arms_told (marked_arms S type b known x arms) ≡ determined_arms S type b known x arms
  arms_tell b known x no_arms = refl
  arms_tell b known x (arm_then l n arms) = ap₂ join (mark_told b (learned x l known) n) (arms_tell b known x arms)

-- the last goals of a list, by their marks
pub all_from : (gs : List GoalNode) (k : ℕ) (d : GoalNode) → k < length gs → conj (row_of (get_or gs k d).det) (all_told (nodes (map plain_node (drop (suc k) gs)))) ≡ all_told (nodes (map plain_node (drop k gs)))
all_from gs k d lt =
    ap (λ (r : Determinism). conj r (all_told (nodes (map plain_node (drop (suc k) gs))))) (sym (mark_open (get_or gs k d)))
    ∙ ap (λ (l : List GoalNode). all_told (nodes (map plain_node l))) (sym (drop-cons gs k d lt))

pub any_from : (gs : List GoalNode) (k : ℕ) (d : GoalNode) → k < length gs → disj (row_of (get_or gs k d).det) (any_told (nodes (map plain_node (drop (suc k) gs)))) ≡ any_told (nodes (map plain_node (drop k gs)))
any_from gs k d lt =
    ap (λ (r : Determinism). disj r (any_told (nodes (map plain_node (drop (suc k) gs))))) (sym (mark_open (get_or gs k d)))
    ∙ ap (λ (l : List GoalNode). any_told (nodes (map plain_node l))) (sym (drop-cons gs k d lt))

pub arms_from : (arms : List Arm) (k : ℕ) (d : Arm) → k < length arms → join (row_of (get_or arms k d).body.det) (arms_told (arms_of (map plain_arm (drop (suc k) arms)))) ≡ arms_told (arms_of (map plain_arm (drop k arms)))
arms_from arms k d lt =
    ap (λ (r : Determinism). join r (arms_told (arms_of (map plain_arm (drop (suc k) arms))))) (sym (mark_open (get_or arms k d).body))
    ∙ ap (λ (p : Label × Node). join (mark_of p.1) (arms_told (arms_of (map plain_arm (drop (suc k) arms))))) (sym (plain_arm-open (get_or arms k d)))
    ∙ ap (λ (l : List Arm). arms_told (arms_of (map plain_arm l))) (sym (drop-cons arms k d lt))

-- copies that came, and those that are to come
abbrev pub before : List Node → Nodes → Nodes
before [] ns = ns
before (x ∷ xs) ns = node_then x (before xs ns)

pub one_before : (xs : List Node) (x : Node) (ns : Nodes) → before (xs ++ x ∷ []) ns ≡ before xs (node_then x ns)
one_before [] x ns = refl
one_before (y ∷ ys) x ns = ap (node_then y) (one_before ys x ns)

pub none_after : (xs : List Node) → before xs no_nodes ≡ nodes xs
none_after [] = refl
none_after (x ∷ xs) = ap (node_then x) (none_after xs)

-- a call, and tests of implied arguments, of which there are some or none
pub call_tells : (b : Bool) (ks : List ℕ) (d : Determinism) → (IsTrue b → ks ≡ []) → (ks ≡ [] → IsTrue b) → (if not b then conj d semidet else d) ≡ then_tests ks d
call_tells true [] d f g = refl
call_tells false [] d f g = let h : false ≡ true = g refl in cc
call_tells true (k ∷ ks) d f g = let h : k ∷ ks ≡ [] = f refl in cc
call_tells false (k ∷ ks) d f g = tests_tell (k ∷ ks) d
