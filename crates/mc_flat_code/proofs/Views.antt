-- How the plain views of scheduled goals compute.
use Rattle.std.proofs.Common.{◌≡◌, ℕ, List, Box, map, false, sym, ap, ◌∙◌}
use Rattle.std.specs.declared.alloc.Global.{Global}
use Rattle.mc_program.specs.Values.{plain_value}
use Rattle.mc_program.specs.declared.value.Value.{Value}
use Rattle.mc_program.specs.declared.builtin.Builtin.{Builtin}
use Rattle.mc_model.specs.Scheduled as S
use Rattle.mc_model.specs.Scheduled.{Label, Node, node, nodes, Scheduled}
use Rattle.mc_model.specs.PlainGoals.{plain_node, plain_sched, plain_arm, plain_label, arms_of, plain_node_step, plain_sched_step, plain_arm_step}
use Rattle.mc_model.specs.declared.sched.Arm.{Arm}
use Rattle.mc_model.specs.declared.sched.GoalNode.{GoalNode}
use Rattle.mc_model.specs.declared.sched.Sched as D
use Rattle.mc_model.specs.declared.sched.Sched.TheOpen as O
use Rattle.mc_model.specs.declared.sched.Sched.TheVariants as V
use Rattle.mc_model.specs.declared.sched.Sched.TheFolds.{fold-roll-Arm, fold-roll-GoalNode, fold-roll-Sched}

pub node_open : (g : GoalNode) → plain_node g ≡ node (plain_sched g.goal) g.changes g.det g.pruned
node_open g =
    fold-roll-GoalNode Scheduled (Label × Node) Node plain_sched_step plain_arm_step plain_node_step (record { goal = g.goal; changes = g.changes; det = g.det; pruned = g.pruned })

pub arm_open : (a : Arm) → plain_arm a ≡ (plain_label a.on, plain_node a.body)
arm_open a =
    fold-roll-Arm Scheduled (Label × Node) Node plain_sched_step plain_arm_step plain_node_step (record { on = a.on; body = a.body })

pub conj_open : (gs : List GoalNode) → plain_sched (D.Conj gs) ≡ S.Conj (nodes (map plain_node gs))
conj_open gs = ap plain_sched (sym (V.rolls-Conj gs)) ∙ fold-roll-Sched Scheduled (Label × Node) Node plain_sched_step plain_arm_step plain_node_step (O.Conj gs)

pub disj_open : (gs : List GoalNode) → plain_sched (D.Disj gs) ≡ S.Disj (nodes (map plain_node gs))
disj_open gs = ap plain_sched (sym (V.rolls-Disj gs)) ∙ fold-roll-Sched Scheduled (Label × Node) Node plain_sched_step plain_arm_step plain_node_step (O.Disj gs)

pub switch_open : (v : ℕ) (arms : List Arm) → plain_sched (D.Switch v arms) ≡ S.Switch v (arms_of (map plain_arm arms))
switch_open v arms = ap plain_sched (sym (V.rolls-Switch v arms)) ∙ fold-roll-Sched Scheduled (Label × Node) Node plain_sched_step plain_arm_step plain_node_step (O.Switch v arms)

pub ite_open : (vs : List ℕ) (c t e : Box GoalNode Global) → plain_sched (D.Ite vs c t e) ≡ S.Ite vs (plain_node c.value) (plain_node t.value) (plain_node e.value)
ite_open vs c t e = ap plain_sched (sym (V.rolls-Ite vs c t e)) ∙ fold-roll-Sched Scheduled (Label × Node) Node plain_sched_step plain_arm_step plain_node_step (O.Ite vs c t e)

pub not_open : (g : Box GoalNode Global) → plain_sched (D.Not g) ≡ S.Not (plain_node g.value)
not_open g = ap plain_sched (sym (V.rolls-Not g)) ∙ fold-roll-Sched Scheduled (Label × Node) Node plain_sched_step plain_arm_step plain_node_step (O.Not g)

pub some_open : (vs : List ℕ) (g : Box GoalNode Global) → plain_sched (D.Some vs g) ≡ S.Exists vs (plain_node g.value)
some_open vs g = ap plain_sched (sym (V.rolls-Some vs g)) ∙ fold-roll-Sched Scheduled (Label × Node) Node plain_sched_step plain_arm_step plain_node_step (O.Some vs g)

pub assign_open : (v w : ℕ) → plain_sched (D.Assign v w) ≡ S.Assign v w
assign_open v w = ap plain_sched (sym (V.rolls-Assign v w)) ∙ fold-roll-Sched Scheduled (Label × Node) Node plain_sched_step plain_arm_step plain_node_step (O.Assign v w)

pub test_open : (v w : ℕ) → plain_sched (D.Test v w) ≡ S.Test v w
test_open v w = ap plain_sched (sym (V.rolls-Test v w)) ∙ fold-roll-Sched Scheduled (Label × Node) Node plain_sched_step plain_arm_step plain_node_step (O.Test v w)

pub build_open : (v s : ℕ) (xs : List ℕ) → plain_sched (D.Build v s xs) ≡ S.Build v s xs
build_open v s xs = ap plain_sched (sym (V.rolls-Build v s xs)) ∙ fold-roll-Sched Scheduled (Label × Node) Node plain_sched_step plain_arm_step plain_node_step (O.Build v s xs)

pub take_open : (v s : ℕ) (xs : List ℕ) → plain_sched (D.Take v s xs) ≡ S.Take v s xs
take_open v s xs = ap plain_sched (sym (V.rolls-Take v s xs)) ∙ fold-roll-Sched Scheduled (Label × Node) Node plain_sched_step plain_arm_step plain_node_step (O.Take v s xs)

pub const_open : (v : ℕ) (c : Value) → plain_sched (D.Const v c) ≡ S.Const v (plain_value c)
const_open v c = ap plain_sched (sym (V.rolls-Const v c)) ∙ fold-roll-Sched Scheduled (Label × Node) Node plain_sched_step plain_arm_step plain_node_step (O.Const v c)

pub test_const_open : (v : ℕ) (c : Value) → plain_sched (D.TestConst v c) ≡ S.TestConst v (plain_value c)
test_const_open v c = ap plain_sched (sym (V.rolls-TestConst v c)) ∙ fold-roll-Sched Scheduled (Label × Node) Node plain_sched_step plain_arm_step plain_node_step (O.TestConst v c)

pub call_open : (p : ℕ) (xs ys : List ℕ) → plain_sched (D.Call p xs ys) ≡ S.Call p xs ys false
call_open p xs ys = ap plain_sched (sym (V.rolls-Call p xs ys)) ∙ fold-roll-Sched Scheduled (Label × Node) Node plain_sched_step plain_arm_step plain_node_step (O.Call p xs ys)

pub apply_open : (op : Builtin) (xs ys : List ℕ) → plain_sched (D.Apply op xs ys) ≡ S.Apply op xs ys
apply_open op xs ys = ap plain_sched (sym (V.rolls-Apply op xs ys)) ∙ fold-roll-Sched Scheduled (Label × Node) Node plain_sched_step plain_arm_step plain_node_step (O.Apply op xs ys)
