-- Which variables of a goal changes bind; and what is found of goals, one after another.
use Rattle.std.proofs.Math.Seq.{drop-cons}
use Rattle.std.proofs.Common.{◌≡◌, ℕ, suc, ◌<◌, Bool, true, false, ◌||◌, List, [], ◌∷◌, ◌++◌, length, get_or, drop, map, refl, sym, ap, ap₂, ◌∙◌, if◌then◌else◌}
use Rattle.std.proofs.lemmas.List.Folds.{list_any-append}
use Rattle.std.specs.List.{list_any}
use Rattle.mc_model.specs.Scheduled.{Node, Label, arm_then, nodes}
use Rattle.mc_model.specs.PlainGoals.{plain_node, plain_arm, arms_of}
use Rattle.mc_model.specs.declared.sched.Arm.{Arm}
use Rattle.mc_model.specs.declared.sched.GoalNode.{GoalNode}
use Rattle.mc_procs.proofs.Views.{plain_node-open, plain_arm-open}
use Rattle.mc_accepted.specs.Ordered.{change_at, binds_one, variables_of_node, variables_of_nodes, variables_of_arms}
use Rattle.mc_accepted.specs.Determined.{insts_after}
use Rattle.mc_det.specs.code.Points.{insts_in}
use Rattle.mc_det_rules.specs.code.Calls.{binds}

-- one of several variables
chosen : (a b : Bool) → (if a then true else b) ≡ (a || b)
chosen true b = refl
chosen false b = refl

pub one_bound : (point : List ℕ) (g : GoalNode) (xs : List ℕ) → list_any (binds point g.changes) xs ≡ binds_one xs (insts_in point) (insts_after (plain_node g) (insts_in point))
one_bound point g xs =
    told xs ∙ ap (λ (n : Node). binds_one xs (insts_in point) (insts_after n (insts_in point))) (sym (plain_node-open g))
  where
    told : (ys : List ℕ) → list_any (binds point g.changes) ys ≡ binds_one ys (insts_in point) (λ x. change_at x g.changes (insts_in point x))
    told [] = refl
    told (y ∷ ys) =
        ap (λ (b : Bool). binds point g.changes y || b) (told ys)
        ∙ sym (chosen (binds point g.changes y) (binds_one ys (insts_in point) (λ x. change_at x g.changes (insts_in point x))))

-- variables of goals, one after another
module _ (f : ℕ → Bool) where
  pub two_lists : (xs ys : List ℕ) (a b r : Bool) → r ≡ (a || b) → a ≡ list_any f xs → b ≡ list_any f ys → r ≡ list_any f (xs ++ ys)
  two_lists xs ys a b r e p q = e ∙ ap₂ (λ (x y : Bool). x || y) p q ∙ sym (list_any-append f xs ys)

  or_false : (b : Bool) → b ≡ (b || false)
  or_false true = refl
  or_false false = refl

  pub one_alone : (x : ℕ) (a : Bool) → a ≡ f x → a ≡ list_any f (x ∷ [])
  one_alone x a e = e ∙ or_false (f x)

  pub goals_bound : (gs : List GoalNode) (k : ℕ) (d : GoalNode) (a found r : Bool) → k < length gs → r ≡ (a || found) → a ≡ list_any f (variables_of_node (plain_node (get_or gs k d))) → found ≡ list_any f (variables_of_nodes (nodes (map plain_node (drop (suc k) gs)))) → r ≡ list_any f (variables_of_nodes (nodes (map plain_node (drop k gs))))
  goals_bound gs k d a found r lt e p q =
      two_lists (variables_of_node (plain_node (get_or gs k d))) (variables_of_nodes (nodes (map plain_node (drop (suc k) gs)))) a found r e p q
      ∙ ap (λ (l : List GoalNode). list_any f (variables_of_nodes (nodes (map plain_node l)))) (sym (drop-cons gs k d lt))

  pub arms_bound : (arms : List Arm) (k : ℕ) (d : Arm) (a found r : Bool) → k < length arms → r ≡ (a || found) → a ≡ list_any f (variables_of_node (plain_node (get_or arms k d).body)) → found ≡ list_any f (variables_of_arms (arms_of (map plain_arm (drop (suc k) arms)))) → r ≡ list_any f (variables_of_arms (arms_of (map plain_arm (drop k arms))))
  arms_bound arms k d a found r lt e p q =
      two_lists (variables_of_node (plain_node (get_or arms k d).body)) (variables_of_arms (arms_of (map plain_arm (drop (suc k) arms)))) a found r e p q
      ∙ ap (λ (p : Label × Node). list_any f (variables_of_arms (arm_then p.0 p.1 (arms_of (map plain_arm (drop (suc k) arms)))))) (sym (plain_arm-open (get_or arms k d)))
      ∙ ap (λ (l : List Arm). list_any f (variables_of_arms (arms_of (map plain_arm l)))) (sym (drop-cons arms k d lt))
