-- What the parts of a goal name is there, and points that stay ready.
use Rattle.std.proofs.Common.{◌≡◌, ℕ, ◌<◌, List, Box, Global, length, get_or, map, sym, ap, ◌∙◌, subst}
use Rattle.mc_program.specs.declared.ty.Ty.{Ty}
use Rattle.mc_model.specs.Scheduled.{nodes}
use Rattle.mc_model.specs.PlainGoals.{plain_node, plain_sched, plain_arm, arms_of}
use Rattle.mc_model.specs.declared.sched.GoalNode.{GoalNode}
use Rattle.mc_model.specs.declared.sched.Arm.{Arm}
use Rattle.mc_model.specs.declared.sched.Sched as D
use Rattle.mc_model.specs.declared.sched.Sched.{Sched}
use Rattle.mc_procs.specs.Named.{Bounds, Named, NamedIn, EachNamed, EachArmNamed}
use Rattle.mc_procs.specs.Procedures.{PlainProcs}
use Rattle.mc_procs.proofs.Views.{plain_node-open, plain_sched-Conj, plain_sched-Disj, plain_sched-Switch, plain_sched-Ite, plain_sched-Not, plain_sched-Some}
use Rattle.mc_det.specs.code.Walks.{Ready}
use Rattle.mc_det.proofs.Walking.{each_named_at, arm_named_at}

pub ready_same : (q : PlainProcs) (types : List Ty) (a b : List ℕ) → b ≡ a → Ready q types a → Ready q types b
ready_same q types a b e r = subst (Ready q types) (sym e) r

module _ (B : Bounds) where
  pub sched_named : (g : GoalNode) → Named B (plain_node g) → NamedIn B (plain_sched g.goal)
  sched_named g h = (subst (Named B) (plain_node-open g) h).1

  pub conj_named : (goal : Sched) (gs xs : List GoalNode) → xs ≡ gs → goal ≡ D.Conj gs → NamedIn B (plain_sched goal) → EachNamed B (nodes (map plain_node xs))
  conj_named goal gs xs e i h = subst (λ (l : List GoalNode). EachNamed B (nodes (map plain_node l))) (sym e) (subst (NamedIn B) (ap plain_sched i ∙ plain_sched-Conj gs) h)

  pub disj_named : (goal : Sched) (gs xs : List GoalNode) → xs ≡ gs → goal ≡ D.Disj gs → NamedIn B (plain_sched goal) → EachNamed B (nodes (map plain_node xs))
  disj_named goal gs xs e i h = subst (λ (l : List GoalNode). EachNamed B (nodes (map plain_node l))) (sym e) (subst (NamedIn B) (ap plain_sched i ∙ plain_sched-Disj gs) h)

  pub arms_in_named : (goal : Sched) (x : ℕ) (arms xs : List Arm) → xs ≡ arms → goal ≡ D.Switch x arms → NamedIn B (plain_sched goal) → EachArmNamed B (arms_of (map plain_arm xs))
  arms_in_named goal x arms xs e i h = subst (λ (l : List Arm). EachArmNamed B (arms_of (map plain_arm l))) (sym e) (subst (NamedIn B) (ap plain_sched i ∙ plain_sched-Switch x arms) h).1

  pub condition_named : (goal : Sched) (vs : List ℕ) (c t e : Box GoalNode Global) (g : GoalNode) → g ≡ c.value → goal ≡ D.Ite vs c t e → NamedIn B (plain_sched goal) → Named B (plain_node g)
  condition_named goal vs c t e g s i h = subst (λ (k : GoalNode). Named B (plain_node k)) (sym s) (subst (NamedIn B) (ap plain_sched i ∙ plain_sched-Ite vs c t e) h).1

  pub then_named : (goal : Sched) (vs : List ℕ) (c t e : Box GoalNode Global) (g : GoalNode) → g ≡ t.value → goal ≡ D.Ite vs c t e → NamedIn B (plain_sched goal) → Named B (plain_node g)
  then_named goal vs c t e g s i h = subst (λ (k : GoalNode). Named B (plain_node k)) (sym s) (subst (NamedIn B) (ap plain_sched i ∙ plain_sched-Ite vs c t e) h).2

  pub else_named : (goal : Sched) (vs : List ℕ) (c t e : Box GoalNode Global) (g : GoalNode) → g ≡ e.value → goal ≡ D.Ite vs c t e → NamedIn B (plain_sched goal) → Named B (plain_node g)
  else_named goal vs c t e g s i h = subst (λ (k : GoalNode). Named B (plain_node k)) (sym s) (subst (NamedIn B) (ap plain_sched i ∙ plain_sched-Ite vs c t e) h).3

  pub not_named : (goal : Sched) (n : Box GoalNode Global) (g : GoalNode) → g ≡ n.value → goal ≡ D.Not n → NamedIn B (plain_sched goal) → Named B (plain_node g)
  not_named goal n g s i h = subst (λ (k : GoalNode). Named B (plain_node k)) (sym s) (subst (NamedIn B) (ap plain_sched i ∙ plain_sched-Not n) h)

  pub some_named : (goal : Sched) (vs : List ℕ) (n : Box GoalNode Global) (g : GoalNode) → g ≡ n.value → goal ≡ D.Some vs n → NamedIn B (plain_sched goal) → Named B (plain_node g)
  some_named goal vs n g s i h = subst (λ (k : GoalNode). Named B (plain_node k)) (sym s) (subst (NamedIn B) (ap plain_sched i ∙ plain_sched-Some vs n) h).1

  pub item_named : (gs : List GoalNode) (k : ℕ) (g : GoalNode) → g ≡ get_or gs k g → k < length gs → EachNamed B (nodes (map plain_node gs)) → Named B (plain_node g)
  item_named gs k g e lt h = subst (λ (n : GoalNode). Named B (plain_node n)) (sym e) (each_named_at B gs k g lt h)

  pub arm_item_named : (arms : List Arm) (k : ℕ) (r : Arm) → r ≡ get_or arms k r → k < length arms → EachArmNamed B (arms_of (map plain_arm arms)) → Named B (plain_node r.body)
  arm_item_named arms k r e lt h = subst (λ (n : Arm). Named B (plain_node n.body)) (sym e) (arm_named_at B arms k r lt h)
