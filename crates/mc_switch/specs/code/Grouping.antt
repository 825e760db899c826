-- How the disjuncts of a disjunction are grouped by the arms of switches. (Mercury Language Reference
-- Manual: Determinism, switches; this project's choice among several variables.)
use Rattle.std.specs.Prelude.{◌≡◌, ℕ, ◌<◌, Bool, List, [], ◌∷◌, map, length}
use Rattle.mc_model.specs.Good.{System}
use Rattle.mc_model.specs.Scheduled.{Node, Scheduled}
use Rattle.mc_model.specs.PlainGoals.{plain_node}
use Rattle.mc_model.specs.declared.sched.GoalNode.{GoalNode}
use Rattle.mc_program.specs.declared.ty.Ty.{Ty}
use Rattle.mc_accepted.specs.MergedArms.{never_ends}
use Rattle.mc_accepted.specs.Ordered.{change_at}
use Rattle.mc_accepted.specs.Switched.{Disjunct, Opening, openings, openings_of, grouped}
use Rattle.mc_insts.specs.Graphs.{count_of}
use Rattle.mc_procs.specs.Procedures.{PlainProcs}
use Rattle.mc_procs.specs.VariableTypes.{type_in}
use Rattle.mc_mode_state.specs.Tables.{Entry}
use Rattle.mc_switch.specs.declared.context.VariableContext.{VariableContext}
use Rattle.mc_switch.specs.declared.formed.Formed.{Formed}
use Rattle.mc_switch.specs.Types.{InstsFit, inst_in}
use Rattle.mc_switch.specs.Kept.{Suits, Extends, kept_by}

-- goals as disjuncts, each with what its source deconstructs: the goal that it is the switch form of
abbrev pub disjuncts_of : (sources goals : List Node) → List Disjunct
disjuncts_of [] ms = []
disjuncts_of (n ∷ ns) [] = []
disjuncts_of (n ∷ ns) (m ∷ ms) = record { opens = openings n; goal = m } ∷ disjuncts_of ns ms

-- what the first of these goals deconstructs
abbrev pub opened_first : List Node → List Opening
opened_first [] = []
opened_first (n ∷ ns) = openings n

-- each variable has an inst before the whole and one after it
pub record AroundFits (q : PlainProcs) (at : VariableContext) : Type 0 where
  pub before : InstsFit q at.types.now at.before.now
  pub after : InstsFit q at.types.now at.after.now

-- Whether the point after a goal is unreachable is told; the insts that it changes are there.
pub record EndsSo
    (q : PlainProcs) (types : List Ty) (insts : List ℕ) (never : Bool) (goal : GoalNode)
    : Type 0 where
  pub told :
      (S : System)
      → Suits q S
      → never ≡ never_ends S (type_in types) (inst_in insts) (plain_node goal)
  pub there : (x : ℕ) → change_at x goal.changes (inst_in insts x) < count_of q.insts

abbrev pub FormedEnds : PlainProcs → List Ty → (insts : List ℕ) → Formed → Type 0
FormedEnds q types insts f = EndsSo q types insts f.never_ends f.node

abbrev pub nodes_of : List Formed → List Node
nodes_of fs = map (λ (f : Formed). plain_node f.node) fs

-- goals from these insts, grouped; what is kept of arms goes by what was found, now or later
abbrev pub IsGrouped :
    PlainProcs → List Entry → VariableContext → (sources goals : List Node) → Scheduled → Type 0
IsGrouped q N at ns ms s =
    (S : System) (M : List Entry) → Suits q S → Extends N M
    → s
    ≡ grouped S (type_in at.types.now)
    (kept_by S (type_in at.types.now) M (length at.types.now) (inst_in at.before.now) (inst_in at.after.now))
    (openings_of (disjuncts_of ns ms)) (inst_in at.before.now) [] (disjuncts_of ns ms)
