-- The plain views of scheduled goals and procedures, as they compute.
use Rattle.std.proofs.Common.{◌≡◌, ℕ, ℤ, List, [], ◌∷◌, map, true, sym, ap, ap₂, ◌∙◌}
use Rattle.std.specs.Prelude.{pos}
use Rattle.mc_program.specs.Values.{Val, int, plain_value, plain_value_step}
use Rattle.mc_program.specs.declared.value.Value.{Value, Int}
use Rattle.mc_program.specs.declared.value.Value.TheOpen as V
use Rattle.mc_program.specs.declared.value.Value.TheVariants as VV
use Rattle.mc_program.specs.declared.value.Value.TheFolds.{fold-roll-Value}
use Rattle.mc_program.specs.PlainPrograms.{plain_type}
use Rattle.mc_model.specs.Scheduled as S
use Rattle.mc_model.specs.Scheduled.{Label, for_constant, Node, node, Scheduled, no_arms, arm_then}
use Rattle.mc_model.specs.PlainGoals.{plain_node, plain_sched, plain_arm, plain_label, arms_of, plain_node_step, plain_sched_step, plain_arm_step}
use Rattle.mc_model.specs.declared.sched.Arm.{Arm}
use Rattle.mc_model.specs.declared.sched.GoalNode.{GoalNode}
use Rattle.mc_model.specs.declared.sched.Sched as SD
use Rattle.mc_model.specs.declared.sched.Sched.TheOpen as SO
use Rattle.mc_model.specs.declared.sched.Sched.TheVariants.{rolls-Switch, rolls-TestConst}
use Rattle.mc_model.specs.declared.sched.Sched.TheFolds.{fold-roll-Arm, fold-roll-GoalNode, fold-roll-Sched}
use Rattle.laws_language.specs.code.Examples.{semidet}
use Rattle.laws_language.specs.code.ExamplesOfPlainGoals.{one_tested, arm_of_one, switch_of_one, plain_test, plain_switch, tests_one, PlainProcedures}

plain_value-Int : (n : ℤ) → plain_value (Int n) ≡ int n
plain_value-Int n = ap plain_value (sym (VV.rolls-Int n)) ∙ fold-roll-Value Val plain_value_step (V.Int n)

plain_node-open : (g : GoalNode) → plain_node g ≡ node (plain_sched g.goal) g.changes g.det g.pruned
plain_node-open g =
    fold-roll-GoalNode Scheduled (Label × Node) Node plain_sched_step plain_arm_step plain_node_step (record { goal = g.goal; changes = g.changes; det = g.det; pruned = g.pruned })

plain_arm-open : (a : Arm) → plain_arm a ≡ (plain_label a.on, plain_node a.body)
plain_arm-open a =
    fold-roll-Arm Scheduled (Label × Node) Node plain_sched_step plain_arm_step plain_node_step (record { on = a.on; body = a.body })

plain_sched-Switch : (v : ℕ) (arms : List Arm) → plain_sched (SD.Switch v arms) ≡ S.Switch v (arms_of (map plain_arm arms))
plain_sched-Switch v arms =
    ap plain_sched (sym (rolls-Switch v arms))
    ∙ fold-roll-Sched Scheduled (Label × Node) Node plain_sched_step plain_arm_step plain_node_step (SO.Switch v arms)

plain_sched-TestConst : (v : ℕ) (c : Value) → plain_sched (SD.TestConst v c) ≡ S.TestConst v (plain_value c)
plain_sched-TestConst v c =
    ap plain_sched (sym (rolls-TestConst v c))
    ∙ fold-roll-Sched Scheduled (Label × Node) Node plain_sched_step plain_arm_step plain_node_step (SO.TestConst v c)

test-view : plain_node one_tested ≡ plain_test
test-view =
    plain_node-open one_tested
    ∙ ap (λ s. node s one_tested.changes one_tested.det one_tested.pruned) (plain_sched-TestConst 0 (Int (pos 1)) ∙ ap (S.TestConst 0) (plain_value-Int (pos 1)))

arm-view : plain_arm arm_of_one ≡ (for_constant (int (pos 1)), plain_test)
arm-view = plain_arm-open arm_of_one ∙ ap₂ (λ (v : Val) (n : Node). (for_constant v, n)) (plain_value-Int (pos 1)) test-view

switch-view : plain_sched switch_of_one ≡ plain_switch
switch-view =
    plain_sched-Switch 0 (arm_of_one ∷ []) ∙ ap (λ (a : Label × Node). S.Switch 0 (arm_then a.0 a.1 no_arms)) arm-view

other-label : ◌≡◌ {A = Label × Node} (for_constant (int (pos 1)), plain_test) (for_constant (int (pos 2)), plain_test) → ⊥
other-label e = let h : ◌≡◌ {A = Label} (for_constant (int (pos 1))) (for_constant (int (pos 2))) = ap (λ (a : Label × Node). a.0) e in cc

pub plain-procedures : PlainProcedures
plain-procedures = (
  (λ ts m p.
      let g : GoalNode = (tests_one ts m p).body in
      ap (λ n. record { pred = 3; head = 0 ∷ []; first = 1 ∷ []; last = 1 ∷ []; body = n; det = semidet; var_types = map plain_type ts })
      (plain_node-open g ∙ ap (λ s. node s [] semidet true) switch-view)),
  switch-view,
  arm-view,
  (λ e. other-label (sym arm-view ∙ e)),
)
