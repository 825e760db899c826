-- Bodies in switch form whose arms merge their disjuncts. (Mercury Language Reference Manual:
-- Determinism, switches; Modes, insts.)
use Rattle.std.specs.Prelude.{◌≡◌, ℕ, ◌≤◌, List, length, Option}
use Rattle.mc_model.specs.Flat.{Flat_goal, variables_of}
use Rattle.mc_model.specs.Good.{System}
use Rattle.mc_model.specs.PlainGoals.{plain_node}
use Rattle.mc_model.specs.declared.sched.GoalNode.{GoalNode}
use Rattle.mc_model.specs.declared.sched.Proc.{Proc}
use Rattle.mc_accepted.specs.Accepted.{entered}
use Rattle.mc_accepted.specs.MergedArms.{ArmsMerge}
use Rattle.mc_accepted.specs.Ordered.{Insts}
use Rattle.mc_accepted.specs.Switched.{Kept, formed}
use Rattle.mc_accepted.specs.code.Standing.{Standing}
use Rattle.laws_order.specs.OrderLaws.{Below}
use Rattle.laws_order.specs.Tidying.{TidyPoint, ChangesTidy}
use Rattle.laws_accepted.specs.FormLaws.{BoundAreOutside}
use Rattle.mc_procs.specs.Fitting.{AllFit}
use Rattle.mc_procs.specs.Procedures.{PlainProcs, insts_of}
use Rattle.mc_procs.specs.VariableTypes.{type_in}
use Rattle.mc_switch.specs.Kept.{Suits}
use Rattle.mc_switch.specs.SwitchedBodies.{IsForm}

-- the procedure's body is an order of a goal, from tidy insts, with no more variables than it has types
pub record IsTidyOrder (S : System) (p : Proc) : Type 0 where
  pub goal : Flat_goal
  pub outside : List ℕ
  pub first : ℕ
  pub next : ℕ
  pub after : Option Insts
  pub order :
      Standing S (type_in p.var_types) outside first (entered p.head p.first) goal
      (plain_node p.body) after next
  pub typed : next ≤ length p.var_types
  pub below : Below first (variables_of goal)
  pub free : (y : ℕ) → first ≤ y → entered p.head p.first y ≡ 0
  pub bound : BoundAreOutside outside (entered p.head p.first) (variables_of goal)
  pub changes : ChangesTidy S (type_in p.var_types) (plain_node p.body)
  pub enters : TidyPoint S (type_in p.var_types) (entered p.head p.first)

-- Where a body is the switch form of such an order, for the insts that were found, it is so for some
-- that are kept of arms, and the arms merge their disjuncts.
abbrev pub FormsMerge : Type 0
FormsMerge =
    (q : PlainProcs) (p : Proc) (body : GoalNode) (S : System) → AllFit q → Suits q S
    → S.insts ≡ insts_of q → IsForm q p body → IsTidyOrder S p
    → (kept : (before after : Insts) → Kept)
    × (plain_node body
    ≡ formed S (type_in p.var_types) kept (entered p.head p.first) (plain_node p.body))
    × ArmsMerge S (type_in p.var_types) (entered p.head p.first)
    (formed S (type_in p.var_types) kept (entered p.head p.first) (plain_node p.body))
