-- Switch forms and the goals that they are made of. (Mercury Language Reference Manual: Determinism,
-- switches; Modes, insts.)
use Rattle.std.specs.Prelude.{◌≡◌, ◌↔◌, ℕ, List, ◌++◌, Option, true}
use Rattle.mc_program.specs.Programs.{TypeTerm}
use Rattle.mc_model.specs.Flat.{Flat_goal, variables_of}
use Rattle.mc_model.specs.Lists.{In}
use Rattle.mc_model.specs.Stream.{is_bound}
use Rattle.mc_model.specs.Good.{System}
use Rattle.mc_model.specs.Scheduled.{Node}
use Rattle.mc_accepted.specs.Fits.{FitsInsts}
use Rattle.mc_accepted.specs.Ordered.{Insts, OrderedNode, variables_of_node}
use Rattle.mc_accepted.specs.MergedArms.{ArmsMerge}
use Rattle.mc_accepted.specs.Switched.{Kept, formed}
use Rattle.laws_accepted.specs.Told.{Retold}

-- a goal and its switch form have the same variables, so what occurs outside a goal stays
abbrev pub FormsKeepVariables : Type 0
FormsKeepVariables =
    (S : System) (T : ℕ → TypeTerm) (kept : (before after : Insts) → Kept) (b : Insts) (n : Node)
    (x : ℕ) → In x (variables_of_node (formed S T kept b n)) ↔ In x (variables_of_node n)

-- each of these variables that is bound occurs outside
abbrev pub BoundAreOutside : (outside : List ℕ) → Insts → List ℕ → Type 0
BoundAreOutside O b xs = (x : ℕ) → is_bound (b x) ≡ true → In x xs → In x O

-- A goal that is ordered is ordered in its switch form, with the same end, where the kept insts of
-- its arms merge the ends of their disjuncts. The form is made of the goal with any determinisms and
-- marks; they are set afterwards.
abbrev pub FormsStayOrdered : Type 0
FormsStayOrdered =
    (S : System) (T : ℕ → TypeTerm) (O Q : List ℕ) (b : Insts) (g : Flat_goal) (n m : Node)
    (o : Option Insts) (kept : (before after : Insts) → Kept) → FitsInsts S.insts
    → OrderedNode S T O Q b g n o → Retold n m
    → BoundAreOutside O b (variables_of g ++ variables_of_node n)
    → ArmsMerge S T b (formed S T kept b m)
    → (k : Node)
    × Retold (formed S T kept b m) k
    × OrderedNode S T O Q b g k o
