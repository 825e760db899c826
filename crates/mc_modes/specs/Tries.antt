-- What calls answer for goals that are tried, whatever list tells what occurs outside them and
-- whatever is found later.
--
-- A try that fails gives up the fresh variables that it made; their numbers are given anew, maybe
-- with other types. So what is told of types is told of the clause's own variables alone, and
-- nothing is asked of those of fresh ones, as over forms of insts.
use Rattle.std.specs.Prelude.{◌≡◌, ◌≤◌, ℕ, nat_lt, if◌then◌else◌, List, length, map, Result, Ok, Err}
use Rattle.mc_program.specs.Programs.{TypeTerm}
use Rattle.mc_model.specs.Flat.{Flat_goal}
use Rattle.mc_model.specs.Lists.{is_in}
use Rattle.mc_model.specs.Scheduled.{nodes}
use Rattle.mc_model.specs.PlainGoals.{plain_node}
use Rattle.mc_model.specs.declared.inst.Sig.{Sig}
use Rattle.mc_accepted.specs.Arranged.{runs, breaks}
use Rattle.mc_accepted.specs.NodeOracle.{NodeOracle}
use Rattle.mc_procs.specs.Named.{NumbersBelow}
use Rattle.mc_procs.specs.Procedures.{PlainProcs}
use Rattle.mc_mode_state.specs.Nodes.{type_in}
use Rattle.mc_mode_state.specs.States.{is_outside, SameState}
use Rattle.mc_mode_state.specs.Agreeing.{OracleAgrees, StateExtends, LaterByTrail}
use Rattle.mc_mode_state.specs.Answers.{plain_fault, Outcome, tried, end_of}
use Rattle.mc_mode_state.specs.declared.state.State.{State}
use Rattle.mc_mode_state.specs.declared.part.Part.{Part}
use Rattle.mc_mode_state.specs.declared.fault.ModeFault.{ModeFault}
use Rattle.mc_mode_state.specs.declared.fault.Failed.{Failed}
use Rattle.mc_mode_state.specs.declared.fault.Failed.TheVariants as E
use Rattle.mc_modes.specs.Signatures.{declared_in}

-- these types of the first variables, and those that the others have now
abbrev pub with_types : (first : ℕ) → State → (ℕ → TypeTerm) → ℕ → TypeTerm
with_types first s T = λ x. if nat_lt x first then T x else type_in s.types.items x

-- The functions agree with what is there, the types of the clause's own variables are these, and
-- nothing is asked of fresh ones.
pub record AgreesOnClause (first : ℕ) (q : PlainProcs) (s : State) (C : NodeOracle) (T : ℕ → TypeTerm) : Type 0 where
  pub agrees : OracleAgrees q s C (with_types first s T)

-- what a goal does when it is tried, by what occurs outside it
abbrev pub Attempt : Type 0
Attempt = (outside : List ℕ) → Outcome

abbrev pub attempt_of : List Sig → Flat_goal → PlainProcs → State → Attempt
attempt_of sigs g q s = λ O. tried (declared_in sigs) g O q s

-- how many variables are the clause's own, and what occurs outside
abbrev pub OutsideKnown : Type 1
OutsideKnown = (first : ℕ) → (outside : List ℕ) → Type 0

-- these variables are the clause's own, and the list tells what occurs outside
abbrev pub tells_outside : List ℕ → State → OutsideKnown
tells_outside vs s first O =
    (first ≤ length s.insts.items)
    × NumbersBelow first vs
    × ((x : ℕ) → is_in x O ≡ is_outside s.outside.items x)

-- It runs so, and leaves this state, whatever comes later.
pub record Succeeds (told : OutsideKnown) (a : Attempt) (q r : PlainProcs) (s t : State)
    (p : Part) : Type 0 where
  pub outcome :
      (first : ℕ) (O : List ℕ) (C : NodeOracle) (T : ℕ → TypeTerm) → told first O
      → AgreesOnClause first r t C T
      → a O C T
      ≡ runs (nodes (map plain_node p.goals.items)) (end_of p.reachable t) (length t.insts.items)
      p.freshened.items
  pub fresh : NumbersBelow (length t.insts.items) p.freshened.items
  pub stepped : LaterByTrail q r s t

-- It breaks this rule, whatever comes later, and the state is the same.
pub record FailsUnchanged (told : OutsideKnown) (a : Attempt) (q r : PlainProcs) (s t : State) (f : ModeFault) : Type 0 where
  pub outcome :
      (first : ℕ) (O : List ℕ) (C : NodeOracle) (T : ℕ → TypeTerm) → told first O
      → AgreesOnClause first r t C T → a O C T ≡ breaks (plain_fault f)
  pub same : SameState s t
  pub moved : StateExtends q r s t

abbrev pub TryPost : OutsideKnown → Attempt → (q r : PlainProcs) → (s t : State)
    → Result Part Failed → Type 0
TryPost told a q r s t (Ok p) = Succeeds told a q r s t p
TryPost told a q r s t (Err (E.Fault f)) = FailsUnchanged told a q r s t f
TryPost told a q r s t (Err E.Memory) = Unit {0}

-- what holds where a rule is broken
abbrev pub OnFault : {A : Type 0} → Result A Failed → Type 0 → Type 0
OnFault (Ok p) X = Unit {0}
OnFault (Err (E.Fault f)) X = X
OnFault (Err E.Memory) X = Unit {0}

-- It breaks this rule, whatever comes later; the trail leads back.
pub record FailsWithTrail (told : OutsideKnown) (a : Attempt) (q r : PlainProcs) (s t : State) (f : ModeFault) : Type 0 where
  pub outcome :
      (first : ℕ) (O : List ℕ) (C : NodeOracle) (T : ℕ → TypeTerm) → told first O
      → AgreesOnClause first r t C T → a O C T ≡ breaks (plain_fault f)
  pub stepped : LaterByTrail q r s t

abbrev pub AttemptPost : OutsideKnown → Attempt → (q r : PlainProcs) → (s t : State)
    → Result Part Failed → Type 0
AttemptPost told a q r s t (Ok p) = Succeeds told a q r s t p
AttemptPost told a q r s t (Err (E.Fault f)) = FailsWithTrail told a q r s t f
AttemptPost told a q r s t (Err E.Memory) = Unit {0}
