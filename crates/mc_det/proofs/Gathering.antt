-- Variables of goals, gathered goal by goal.
use Rattle.std.proofs.Math.Seq.{drop-cons, drop-length}
use Rattle.std.proofs.Common.{◌≡◌, ℕ, suc, ◌+◌, ◌<◌, List, [], ◌∷◌, ◌++◌, length, get_or, drop, map, add-one, append_assoc, refl, sym, ap, ◌∙◌}
use Rattle.mc_model.specs.Scheduled.{Node, nodes, Label}
use Rattle.mc_model.specs.PlainGoals.{plain_node, plain_arm, arms_of}
use Rattle.mc_model.specs.declared.sched.GoalNode.{GoalNode}
use Rattle.mc_model.specs.declared.sched.Arm.{Arm}
use Rattle.mc_accepted.specs.Ordered.{variables_of_node, variables_of_nodes, variables_of_arms}
use Rattle.mc_procs.proofs.Views.{plain_arm-open}

abbrev pub of_goals : List GoalNode → List ℕ
of_goals gs = variables_of_nodes (nodes (map plain_node gs))

abbrev pub of_arms : List Arm → List ℕ
of_arms arms = variables_of_arms (arms_of (map plain_arm arms))

none_left : (xs : List ℕ) → xs ++ [] ≡ xs
none_left [] = refl
none_left (x ∷ xs) = ap (λ (l : List ℕ). x ∷ l) (none_left xs)

-- one goal more, and no goal more
pub goal_gathered : (xs ys total : List ℕ) (gs : List GoalNode) (k : ℕ) (g : GoalNode) → k < length gs → g ≡ get_or gs k g → ys ≡ xs ++ variables_of_node (plain_node g) → xs ++ of_goals (drop k gs) ≡ total → ys ++ of_goals (drop (k + 1) gs) ≡ total
goal_gathered xs ys total gs k g lt is put e =
    ap (λ n. ys ++ of_goals (drop n gs)) (add-one k)
    ∙ ap (λ (l : List ℕ). l ++ of_goals (drop (suc k) gs)) put
    ∙ append_assoc xs (variables_of_node (plain_node g)) (of_goals (drop (suc k) gs))
    ∙ ap (λ (h : GoalNode). xs ++ (variables_of_node (plain_node h) ++ of_goals (drop (suc k) gs))) is
    ∙ ap (λ (l : List GoalNode). xs ++ of_goals l) (sym (drop-cons gs k g lt))
    ∙ e

pub goals_gathered : (xs total : List ℕ) (gs : List GoalNode) (k : ℕ) → k ≡ length gs → xs ++ of_goals (drop k gs) ≡ total → xs ≡ total
goals_gathered xs total gs k at e =
    sym (none_left xs)
    ∙ ap (λ (l : List GoalNode). xs ++ of_goals l) (sym (drop-length gs))
    ∙ ap (λ n. xs ++ of_goals (drop n gs)) (sym at)
    ∙ e

pub arm_gathered : (xs ys total : List ℕ) (arms : List Arm) (k : ℕ) (a : Arm) → k < length arms → a ≡ get_or arms k a → ys ≡ xs ++ variables_of_node (plain_node a.body) → xs ++ of_arms (drop k arms) ≡ total → ys ++ of_arms (drop (k + 1) arms) ≡ total
arm_gathered xs ys total arms k a lt is put e =
    ap (λ n. ys ++ of_arms (drop n arms)) (add-one k)
    ∙ ap (λ (l : List ℕ). l ++ of_arms (drop (suc k) arms)) put
    ∙ append_assoc xs (variables_of_node (plain_node a.body)) (of_arms (drop (suc k) arms))
    ∙ ap (λ (p : Label × Node). xs ++ (variables_of_node p.1 ++ of_arms (drop (suc k) arms))) (sym (plain_arm-open a))
    ∙ ap (λ (b : Arm). xs ++ (variables_of_node (plain_arm b).1 ++ of_arms (drop (suc k) arms))) is
    ∙ ap (λ (l : List Arm). xs ++ of_arms l) (sym (drop-cons arms k a lt))
    ∙ e

pub arms_gathered : (xs total : List ℕ) (arms : List Arm) (k : ℕ) → k ≡ length arms → xs ++ of_arms (drop k arms) ≡ total → xs ≡ total
arms_gathered xs total arms k at e =
    sym (none_left xs)
    ∙ ap (λ (l : List Arm). xs ++ of_arms l) (sym (drop-length arms))
    ∙ ap (λ n. xs ++ of_arms (drop n arms)) (sym at)
    ∙ e
