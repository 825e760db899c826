-- Alternatives that open with the test of a label, one after another.
use Rattle.std.proofs.Common.{◌≡◌, ℕ, ◌<◌, ◌≤◌, ◌+◌, sym, ap, ◌∙◌, subst, List, [], ◌∷◌, ◌++◌, length, take, get_or, map, arith}
use Rattle.std.proofs.Math.Seq.{take-length}
use Rattle.std.proofs.lemmas.List.{take_more, map_push}
use Rattle.mc_model.specs.Scheduled.{Label, Node, nodes}
use Rattle.mc_model.specs.PlainGoals.{plain_node, plain_arm, arms_of}
use Rattle.mc_model.specs.declared.sched.Arm.{Arm}
use Rattle.mc_model.specs.declared.sched.GoalNode.{GoalNode}
use Rattle.mc_flat_code.specs.Standing.{Opens, FirstOpens, EachOpens, FirstArmOpens, EachArmOpens}
use Rattle.mc_flat_code.proofs.Views.{arm_open}

module _ (l : Label) (v : ℕ) where
  each_more : (ns : List Node) (n : Node) → EachOpens l v (nodes ns) → Opens l v n → EachOpens l v (nodes (ns ++ n ∷ []))
  each_more [] n x o = (o, tt)
  each_more (m ∷ ns) n x o = (x.0, each_more ns n x.1 o)

  arms_more : (arms : List (Label × Node)) (arm : Label × Node) → EachArmOpens l v (arms_of arms) → Opens l v arm.1 → EachArmOpens l v (arms_of (arms ++ arm ∷ []))
  arms_more [] arm x o = (o, tt)
  arms_more (a ∷ arms) arm x o = (x.0, arms_more arms arm x.1 o)

  -- one more alternative has been looked at
  pub goal_opens : (goals : List GoalNode) (k : ℕ) (d : GoalNode) → k < length goals → EachOpens l v (nodes (map plain_node (take k goals))) → Opens l v (plain_node (get_or goals k d)) → EachOpens l v (nodes (map plain_node (take (k + 1) goals)))
  goal_opens goals k d h x o =
      subst (λ ns. EachOpens l v (nodes ns)) (sym (ap (map plain_node) (take_more goals k d h) ∙ map_push plain_node (take k goals) (get_or goals k d)))
      (each_more (map plain_node (take k goals)) (plain_node (get_or goals k d)) x o)

  pub arm_opens : (arms : List Arm) (k : ℕ) (d : Arm) → k < length arms → EachArmOpens l v (arms_of (map plain_arm (take k arms))) → Opens l v (plain_node (get_or arms k d).body) → EachArmOpens l v (arms_of (map plain_arm (take (k + 1) arms)))
  arm_opens arms k d h x o =
      subst (λ as2. EachArmOpens l v (arms_of as2)) (sym (ap (map plain_arm) (take_more arms k d h) ∙ map_push plain_arm (take k arms) (get_or arms k d)))
      (arms_more (map plain_arm (take k arms)) (plain_arm (get_or arms k d)) x
      (subst (λ (a : Label × Node). Opens l v a.1) (sym (arm_open (get_or arms k d))) o))

  -- all have been looked at
  pub goals_open : (goals : List GoalNode) (k : ℕ) → k ≡ length goals → EachOpens l v (nodes (map plain_node (take k goals))) → EachOpens l v (nodes (map plain_node goals))
  goals_open goals k e x =
      subst (λ gs. EachOpens l v (nodes (map plain_node gs))) (ap (λ j. take j goals) e ∙ take-length goals) x

  pub arms_open : (arms : List Arm) (k : ℕ) → k ≡ length arms → EachArmOpens l v (arms_of (map plain_arm (take k arms))) → EachArmOpens l v (arms_of (map plain_arm arms))
  arms_open arms k e x =
      subst (λ as2. EachArmOpens l v (arms_of (map plain_arm as2))) (ap (λ j. take j arms) e ∙ take-length arms) x

  -- the first of them
  pub first_goal : (goals : List GoalNode) → 1 ≤ length goals → EachOpens l v (nodes (map plain_node goals)) → FirstOpens l v (nodes (map plain_node goals))
  first_goal [] h x = absurd (omega (arith, h))
  first_goal (g ∷ goals) h x = x.0

  pub first_arm : (arms : List Arm) → 1 ≤ length arms → EachArmOpens l v (arms_of (map plain_arm arms)) → FirstArmOpens l v (arms_of (map plain_arm arms))
  first_arm [] h x = absurd (omega (arith, h))
  first_arm (a ∷ arms) h x = x.0
