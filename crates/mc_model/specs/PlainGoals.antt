-- The plain data that flat goals, scheduled goals and procedures stand for, without their rows and
-- boxes.
use Rattle.std.specs.Prelude.{List, [], ◌∷◌, map, false}
use Rattle.mc_program.specs.Values.{plain_value}
use Rattle.mc_program.specs.PlainPrograms.{plain_type}
use Rattle.mc_model.specs.Flat as F
use Rattle.mc_model.specs.Flat.{Flat_goal, flats}
use Rattle.mc_model.specs.Scheduled as S
use Rattle.mc_model.specs.Scheduled.{Label, for_symbol, for_constant, Node, node, Scheduled, nodes, Arms, no_arms, arm_then, Procedure}
use Rattle.mc_model.specs.declared.flat.Flat.{Flat}
use Rattle.mc_model.specs.declared.flat.Flat.TheOpen as FO
use Rattle.mc_model.specs.declared.flat.Flat.TheFolds.{fold-Flat}
use Rattle.mc_model.specs.declared.sched.On.{On}
use Rattle.mc_model.specs.declared.sched.On.TheVariants as O
use Rattle.mc_model.specs.declared.sched.Arm.{Arm}
use Rattle.mc_model.specs.declared.sched.GoalNode.{GoalNode}
use Rattle.mc_model.specs.declared.sched.Sched.{Sched}
use Rattle.mc_model.specs.declared.sched.Sched.TheOpen as SO
use Rattle.mc_model.specs.declared.sched.Sched.TheFolds.{fold-Arm, fold-GoalNode, fold-Sched}
use Rattle.mc_model.specs.declared.sched.Proc.{Proc}

-- `true` is the conjunction of no goals
abbrev pub plain_flat_step : FO.Flat-F Flat_goal → Flat_goal
plain_flat_step FO.True = F.And F.no_flat
plain_flat_step (FO.Conj goals) = F.And (flats goals)
plain_flat_step (FO.Disj goals) = F.Or (flats goals)
plain_flat_step (FO.Ite vars c t e) = F.If vars c.value t.value e.value
plain_flat_step (FO.Not g) = F.Not g.value
plain_flat_step (FO.Some vars g) = F.Exists vars g.value
plain_flat_step (FO.Same v w) = F.Same v w
plain_flat_step (FO.Made v s args) = F.Made v s args
plain_flat_step (FO.Const v c) = F.Is v (plain_value c)
plain_flat_step (FO.Call p args) = F.Call p args

abbrev pub plain_flat : Flat → Flat_goal
plain_flat = fold-Flat Flat_goal plain_flat_step

abbrev pub plain_label : On → Label
plain_label (O.Symbol s) = for_symbol s
plain_label (O.Const v) = for_constant (plain_value v)

-- the arms of a list
abbrev pub arms_of : List (Label × Node) → Arms
arms_of [] = no_arms
arms_of (arm ∷ arms) = arm_then arm.0 arm.1 (arms_of arms)

abbrev pub plain_arm_step : SO.Arm-F Scheduled (Label × Node) Node → Label × Node
plain_arm_step a = (plain_label a.on, a.body)

abbrev pub plain_node_step : SO.GoalNode-F Scheduled (Label × Node) Node → Node
plain_node_step g = node g.goal g.changes g.det g.pruned

-- Which calls are last is no part of a goal: it is told of a procedure's calls by their places.
-- Here none is.
abbrev pub plain_sched_step : SO.Sched-F Scheduled (Label × Node) Node → Scheduled
plain_sched_step (SO.Conj goals) = S.Conj (nodes goals)
plain_sched_step (SO.Disj goals) = S.Disj (nodes goals)
plain_sched_step (SO.Switch v arms) = S.Switch v (arms_of arms)
plain_sched_step (SO.Ite vars c t e) = S.Ite vars c.value t.value e.value
plain_sched_step (SO.Not g) = S.Not g.value
plain_sched_step (SO.Some vars g) = S.Exists vars g.value
plain_sched_step (SO.Assign v w) = S.Assign v w
plain_sched_step (SO.Test v w) = S.Test v w
plain_sched_step (SO.Build v s args) = S.Build v s args
plain_sched_step (SO.Take v s args) = S.Take v s args
plain_sched_step (SO.Const v c) = S.Const v (plain_value c)
plain_sched_step (SO.TestConst v c) = S.TestConst v (plain_value c)
plain_sched_step (SO.Call p args implied) = S.Call p args implied false
plain_sched_step (SO.Apply op inputs outputs) = S.Apply op inputs outputs

abbrev pub plain_node : GoalNode → Node
plain_node =
    fold-GoalNode Scheduled (Label × Node) Node plain_sched_step plain_arm_step plain_node_step

abbrev pub plain_sched : Sched → Scheduled
plain_sched =
    fold-Sched Scheduled (Label × Node) Node plain_sched_step plain_arm_step plain_node_step

abbrev pub plain_arm : Arm → Label × Node
plain_arm = fold-Arm Scheduled (Label × Node) Node plain_sched_step plain_arm_step plain_node_step

abbrev pub plain_proc : Proc → Procedure
plain_proc p =
    record {
      pred = p.pred;
      head = p.head;
      first = p.first;
      last = p.last;
      body = plain_node p.body;
      det = p.det;
      var_types = map plain_type p.var_types;
    }
