-- Parts of switches over what is kept of disjuncts, while some variables are left out.
use Rattle.std.specs.Prelude.{◌≡◌, ℕ, List, map, length, Bool, Option, All}
use Rattle.mc_model.specs.Good.{System}
use Rattle.mc_model.specs.declared.sched.GoalNode.{GoalNode}
use Rattle.mc_model.specs.Scheduled.{Label, Node, Scheduled}
use Rattle.mc_accepted.specs.Switched.{Disjunct, Kept, arm_of, chosen, grouped}
use Rattle.mc_procs.specs.Procedures.{PlainProcs}
use Rattle.mc_procs.specs.VariableTypes.{type_in}
use Rattle.mc_mode_state.specs.Tables.{Entry}
use Rattle.mc_switch.specs.declared.context.VariableContext.{VariableContext}
use Rattle.mc_switch.specs.declared.disjunct.Opened.{Opened}
use Rattle.mc_switch.specs.declared.formed.Formed.{Formed}
use Rattle.mc_switch.specs.declared.groups.Group.{Group}
use Rattle.mc_switch.specs.Types.{inst_in}
use Rattle.mc_switch.specs.Kept.{Suits, Extends, kept_by}
use Rattle.mc_switch.specs.code.Labels.{KeepsFirst, plain_opened}
use Rattle.mc_switch.specs.code.Ends.{KeepsEnd}
use Rattle.mc_switch.specs.code.Choices.{AreSame}

-- the disjuncts of a group keep their first labels, and tell where they end
abbrev pub KeepsGroup : Group → Type 0
KeepsGroup g = All KeepsFirst g.disjuncts.items

abbrev pub KeepsEnds : PlainProcs → VariableContext → Group → Type 0
KeepsEnds q at g = All (KeepsEnd q at) g.disjuncts.items

-- goals are kept as they come, each with what it tells of the point after it
abbrev pub kept_end : Opened → Bool × GoalNode
kept_end o = (o.never_ends, o.goal)

abbrev pub formed_end : Formed → Bool × GoalNode
formed_end f = (f.never_ends, f.node)

abbrev pub AreKept : List Formed → List Opened → Type 0
AreKept fs os = map kept_end os ≡ map formed_end fs

-- what is kept of an arm, by what was found
abbrev pub kept_in : System → List Entry → VariableContext → Kept
kept_in S M at =
    kept_by S (type_in at.types.now) M (length at.types.now) (inst_in at.before.now)
    (inst_in at.after.now)

abbrev pub arm_with :
    Kept → (again : List Disjunct → Scheduled) → Label × List Opened → Label × Node
arm_with kept again g = (g.0, arm_of kept again (map plain_opened g.1))

module _ (q : PlainProcs) (N : List Entry) (at : VariableContext) (out : List Bool)
    (times : ℕ) where
  -- in each system that suits, with what was found now or later, and whichever list says what is
  -- left out
  abbrev pub EachTime :
      {A : Type 0} → (Kept → (again : List Disjunct → Scheduled) → A) → A → Type 0
  EachTime make answer =
      (S : System) (M : List Entry) (xs : List ℕ) → Suits q S → Extends N M → AreSame xs out
      → answer
      ≡ make (kept_in S M at)
      (grouped S (type_in at.types.now) (kept_in S M at) times (inst_in at.before.now) xs)

  abbrev pub IsGroupedOf : List Opened → Scheduled → Type 0
  IsGroupedOf os s = EachTime (λ kept again. again (map plain_opened os)) s

  -- one arm's goal, one arm, and the arms of groups
  abbrev pub IsPartOf : List Opened → Node → Type 0
  IsPartOf os n = EachTime (λ kept again. arm_of kept again (map plain_opened os)) n

  abbrev pub IsArmOf : Label × List Opened → Label × Node → Type 0
  IsArmOf g arm = EachTime (λ kept again. arm_with kept again g) arm

  abbrev pub AreArmsOf : List (Label × List Opened) → List (Label × Node) → Type 0
  AreArmsOf gs arms = EachTime (λ kept again. map (arm_with kept again) gs) arms

-- the variable that is chosen there, in each system that suits
abbrev pub IsChosenIn : PlainProcs → VariableContext → (out : List Bool) → List Opened → Option ℕ
    → Type 0
IsChosenIn q at set os answer =
    (S : System) (out : List ℕ) → Suits q S → AreSame out set
    → answer
    ≡ chosen S (type_in at.types.now) out (inst_in at.before.now) (map plain_opened os)
