-- How the plain views of scheduled goals compute, one layer of a goal at a time.
use Rattle.std.proofs.Common.{◌≡◌, ℕ, false, Box, Global, List, map, sym, ap, ◌∙◌}
use Rattle.mc_program.specs.Values.{plain_value}
use Rattle.mc_program.specs.declared.builtin.Builtin.{Builtin}
use Rattle.mc_program.specs.declared.value.Value.{Value}
use Rattle.mc_model.specs.Scheduled as S
use Rattle.mc_model.specs.Scheduled.{Label, Node, node, Scheduled, nodes}
use Rattle.mc_model.specs.PlainGoals.{arms_of, plain_label, plain_node, plain_node_step, plain_sched, plain_sched_step, plain_arm, plain_arm_step}
use Rattle.mc_model.specs.declared.sched.Arm.{Arm}
use Rattle.mc_model.specs.declared.sched.GoalNode.{GoalNode}
use Rattle.mc_model.specs.declared.sched.Sched as D
use Rattle.mc_model.specs.declared.sched.Sched.TheOpen as O
use Rattle.mc_model.specs.declared.sched.Sched.TheVariants as V
use Rattle.mc_model.specs.declared.sched.Sched.TheFolds.{fold-roll-Arm, fold-roll-GoalNode, fold-roll-Sched}

pub plain_node-open : (g : GoalNode) → plain_node g ≡ node (plain_sched g.goal) g.changes g.det g.pruned
plain_node-open g =
    fold-roll-GoalNode Scheduled (Label × Node) Node plain_sched_step plain_arm_step plain_node_step
    (record { goal = g.goal; changes = g.changes; det = g.det; pruned = g.pruned })

pub plain_arm-open : (a : Arm) → plain_arm a ≡ (plain_label a.on, plain_node a.body)
plain_arm-open a =
    fold-roll-Arm Scheduled (Label × Node) Node plain_sched_step plain_arm_step plain_node_step
    (record { on = a.on; body = a.body })

pub plain_sched-Conj : (gs : List GoalNode) → plain_sched (D.Conj gs) ≡ S.Conj (nodes (map plain_node gs))
plain_sched-Conj gs =
    ap plain_sched (sym (V.rolls-Conj gs))
    ∙ fold-roll-Sched Scheduled (Label × Node) Node plain_sched_step plain_arm_step plain_node_step
    (O.Conj gs)

pub plain_sched-Disj : (gs : List GoalNode) → plain_sched (D.Disj gs) ≡ S.Disj (nodes (map plain_node gs))
plain_sched-Disj gs =
    ap plain_sched (sym (V.rolls-Disj gs))
    ∙ fold-roll-Sched Scheduled (Label × Node) Node plain_sched_step plain_arm_step plain_node_step
    (O.Disj gs)

pub plain_sched-Switch : (v : ℕ) (arms : List Arm) → plain_sched (D.Switch v arms) ≡ S.Switch v (arms_of (map plain_arm arms))
plain_sched-Switch v arms =
    ap plain_sched (sym (V.rolls-Switch v arms))
    ∙ fold-roll-Sched Scheduled (Label × Node) Node plain_sched_step plain_arm_step plain_node_step
    (O.Switch v arms)

pub plain_sched-Ite : (vars : List ℕ) (c t e : Box GoalNode Global) → plain_sched (D.Ite vars c t e) ≡ S.Ite vars (plain_node c.value) (plain_node t.value) (plain_node e.value)
plain_sched-Ite vars c t e =
    ap plain_sched (sym (V.rolls-Ite vars c t e))
    ∙ fold-roll-Sched Scheduled (Label × Node) Node plain_sched_step plain_arm_step plain_node_step
    (O.Ite vars c t e)

pub plain_sched-Not : (g : Box GoalNode Global) → plain_sched (D.Not g) ≡ S.Not (plain_node g.value)
plain_sched-Not g =
    ap plain_sched (sym (V.rolls-Not g))
    ∙ fold-roll-Sched Scheduled (Label × Node) Node plain_sched_step plain_arm_step plain_node_step
    (O.Not g)

pub plain_sched-Some : (vars : List ℕ) (g : Box GoalNode Global) → plain_sched (D.Some vars g) ≡ S.Exists vars (plain_node g.value)
plain_sched-Some vars g =
    ap plain_sched (sym (V.rolls-Some vars g))
    ∙ fold-roll-Sched Scheduled (Label × Node) Node plain_sched_step plain_arm_step plain_node_step
    (O.Some vars g)

pub plain_sched-Assign : (v w : ℕ) → plain_sched (D.Assign v w) ≡ S.Assign v w
plain_sched-Assign v w =
    ap plain_sched (sym (V.rolls-Assign v w))
    ∙ fold-roll-Sched Scheduled (Label × Node) Node plain_sched_step plain_arm_step plain_node_step
    (O.Assign v w)

pub plain_sched-Test : (v w : ℕ) → plain_sched (D.Test v w) ≡ S.Test v w
plain_sched-Test v w =
    ap plain_sched (sym (V.rolls-Test v w))
    ∙ fold-roll-Sched Scheduled (Label × Node) Node plain_sched_step plain_arm_step plain_node_step
    (O.Test v w)

pub plain_sched-Build : (v s : ℕ) (args : List ℕ) → plain_sched (D.Build v s args) ≡ S.Build v s args
plain_sched-Build v s args =
    ap plain_sched (sym (V.rolls-Build v s args))
    ∙ fold-roll-Sched Scheduled (Label × Node) Node plain_sched_step plain_arm_step plain_node_step
    (O.Build v s args)

pub plain_sched-Take : (v s : ℕ) (args : List ℕ) → plain_sched (D.Take v s args) ≡ S.Take v s args
plain_sched-Take v s args =
    ap plain_sched (sym (V.rolls-Take v s args))
    ∙ fold-roll-Sched Scheduled (Label × Node) Node plain_sched_step plain_arm_step plain_node_step
    (O.Take v s args)

pub plain_sched-Const : (v : ℕ) (c : Value) → plain_sched (D.Const v c) ≡ S.Const v (plain_value c)
plain_sched-Const v c =
    ap plain_sched (sym (V.rolls-Const v c))
    ∙ fold-roll-Sched Scheduled (Label × Node) Node plain_sched_step plain_arm_step plain_node_step
    (O.Const v c)

pub plain_sched-TestConst : (v : ℕ) (c : Value) → plain_sched (D.TestConst v c) ≡ S.TestConst v (plain_value c)
plain_sched-TestConst v c =
    ap plain_sched (sym (V.rolls-TestConst v c))
    ∙ fold-roll-Sched Scheduled (Label × Node) Node plain_sched_step plain_arm_step plain_node_step
    (O.TestConst v c)

pub plain_sched-Call : (k : ℕ) (args implied : List ℕ) → plain_sched (D.Call k args implied) ≡ S.Call k args implied false
plain_sched-Call k args implied =
    ap plain_sched (sym (V.rolls-Call k args implied))
    ∙ fold-roll-Sched Scheduled (Label × Node) Node plain_sched_step plain_arm_step plain_node_step
    (O.Call k args implied)

pub plain_sched-Apply : (op : Builtin) (inputs outputs : List ℕ) → plain_sched (D.Apply op inputs outputs) ≡ S.Apply op inputs outputs
plain_sched-Apply op inputs outputs =
    ap plain_sched (sym (V.rolls-Apply op inputs outputs))
    ∙ fold-roll-Sched Scheduled (Label × Node) Node plain_sched_step plain_arm_step plain_node_step
    (O.Apply op inputs outputs)
