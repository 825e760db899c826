-- The plain view of a procedure value, which forgets its mode, its place and what is declared of it.
use Rattle.std.specs.Prelude.{◌≡◌, ◌≢◌, ℕ, List, [], ◌∷◌, map, false, true, pos, None}
use Rattle.mc_source.specs.declared.place.Place.{Place}
use Rattle.mc_program.specs.Values.{int}
use Rattle.mc_program.specs.PlainPrograms.{plain_type}
use Rattle.mc_program.specs.declared.ty.Ty.{Ty}
use Rattle.mc_program.specs.declared.value.Value.{Int}
use Rattle.mc_model.specs.Scheduled as S
use Rattle.mc_model.specs.Scheduled.{for_constant, Node, node, Scheduled, no_arms, arm_then, Procedure}
use Rattle.mc_model.specs.PlainGoals.{plain_sched, plain_arm, plain_proc}
use Rattle.mc_model.specs.declared.sched.On.TheVariants as O
use Rattle.mc_model.specs.declared.sched.Arm.{Arm}
use Rattle.mc_model.specs.declared.sched.GoalNode.{GoalNode}
use Rattle.mc_model.specs.declared.sched.Sched as SD
use Rattle.mc_model.specs.declared.sched.Sched.{Sched}
use Rattle.mc_model.specs.declared.sched.Proc.{Proc}
use Rattle.laws_language.specs.code.Examples.{det, semidet}

-- `q(X) :- X = 1.` in the mode (in), as a switch of one arm: the value, and what it stands for
abbrev pub one_tested : GoalNode
one_tested =
    record { goal = SD.TestConst 0 (Int (pos 1)); changes = []; det = det; pruned = true }

abbrev pub arm_of_one : Arm
arm_of_one = record { on = O.Const (Int (pos 1)); body = one_tested }

abbrev pub switch_of_one : Sched
switch_of_one = SD.Switch 0 (arm_of_one ∷ [])

abbrev pub plain_test : Node
plain_test = node (S.TestConst 0 (int (pos 1))) [] det true

abbrev pub plain_switch : Scheduled
plain_switch = S.Switch 0 (arm_then (for_constant (int (pos 1))) plain_test no_arms)

abbrev pub tests_one : List Ty → (mode : ℕ) → Place → Proc
tests_one ts m p =
    record {
      pred = 3;
      mode = m;
      head = 0 ∷ [];
      var_types = ts;
      first = 1 ∷ [];
      last = 1 ∷ [];
      body = record { goal = switch_of_one; changes = []; det = semidet; pruned = true };
      declared = None;
      det = semidet;
      exported = false;
      at = p;
    }

abbrev pub plain_tests_one : List Ty → Procedure
plain_tests_one ts =
    record {
      pred = 3;
      head = 0 ∷ [];
      first = 1 ∷ [];
      last = 1 ∷ [];
      body = node plain_switch [] semidet true;
      det = semidet;
      var_types = map plain_type ts;
    }

abbrev pub PlainProcedures : Type 0
PlainProcedures =
    ((ts : List Ty) (m : ℕ) (p : Place) → plain_proc (tests_one ts m p) ≡ plain_tests_one ts)
    × (plain_sched switch_of_one ≡ plain_switch)
    × (plain_arm arm_of_one ≡ (for_constant (int (pos 1)), plain_test))
    × (plain_arm arm_of_one ≢ (for_constant (int (pos 2)), plain_test))
