-- The ends of disjuncts, over what is kept of these.
use Rattle.std.specs.Prelude.{ℕ, Bool, not, List, [], ◌∷◌, ◌++◌, map, if◌then◌else◌}
use Rattle.std.specs.List.{list_any}
use Rattle.mc_model.specs.Good.{System}
use Rattle.mc_accepted.specs.Ordered.{Insts, change_at}
use Rattle.mc_accepted.specs.Switched.{goals_of}
use Rattle.mc_accepted.specs.MergedArms.{ends}
use Rattle.mc_procs.specs.Procedures.{PlainProcs}
use Rattle.mc_procs.specs.VariableTypes.{type_in}
use Rattle.mc_mode_state.specs.Tables.{Entry}
use Rattle.mc_switch.specs.declared.context.VariableContext.{VariableContext}
use Rattle.mc_switch.specs.declared.disjunct.Opened.{Opened}
use Rattle.mc_switch.specs.Kept.{Suits, Extends}
use Rattle.mc_switch.specs.code.Grouping.{EndsSo}
use Rattle.mc_switch.specs.Types.{inst_in}
use Rattle.mc_switch.specs.code.Labels.{plain_opened}

-- the inst of a variable at a disjunct's end, where that is reachable; those at all ends
abbrev pub inst_at_end : (before x : ℕ) → Opened → List ℕ
inst_at_end i x o = if o.never_ends then [] else change_at x o.goal.changes i ∷ []

abbrev pub insts_at_ends : (before x : ℕ) → List Opened → List ℕ
insts_at_ends i x [] = []
insts_at_ends i x (o ∷ os) = inst_at_end i x o ++ insts_at_ends i x os

-- the point after one of them is reachable
abbrev pub one_ends : List Opened → Bool
one_ends os = list_any (λ (o : Opened). not o.never_ends) os

-- what is kept of a disjunct tells where its goal ends
abbrev pub KeepsEnd : PlainProcs → VariableContext → Opened → Type 0
KeepsEnd q at o = EndsSo q at.types.now at.before.now o.never_ends o.goal

-- with what was found now or later, and the insts at the ends of these disjuncts
abbrev pub ChangesSo :
    PlainProcs → VariableContext → List Entry → List Opened
    → (List Entry → (before after : Insts) → List Insts → Type 0) → Type 0
ChangesSo q at N os P =
    (S : System) (M : List Entry) → Suits q S → Extends N M
    → P M (inst_in at.before.now) (inst_in at.after.now)
    (ends S (type_in at.types.now) (inst_in at.before.now) (goals_of (map plain_opened os)))
