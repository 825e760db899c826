-- What the calls answer for a goal that is tried.
use Rattle.std.specs.Prelude.{◌≡◌, ℕ, Bool, true, false, List, length, map, not, Option, Some, None, Result, Ok, Err}
use Rattle.mc_program.specs.Programs.{TypeTerm}
use Rattle.mc_model.specs.Flat.{Flat_goal, variables_of}
use Rattle.mc_model.specs.Scheduled.{nodes}
use Rattle.mc_model.specs.PlainGoals.{plain_node}
use Rattle.mc_model.specs.Stream.{is_bound}
use Rattle.mc_accepted.specs.Arranged.{Point, Fault, waits, negated_binds, branches_differ, Arranged, runs, breaks, Declared, ascending, trial}
use Rattle.mc_accepted.specs.NodeOracle.{NodeOracle, of_nodes}
use Rattle.mc_accepted.specs.FreshTests.{AllAlike}
use Rattle.mc_procs.specs.Named.{NumbersBelow}
use Rattle.mc_procs.specs.Procedures.{PlainProcs, source_of}
use Rattle.mc_mode_state.specs.States.{point_of, SameState}
use Rattle.mc_mode_state.specs.Agreeing.{TypedAs, OracleAgrees, StateExtends, LaterByTrail}
use Rattle.mc_mode_state.specs.declared.state.State.{State}
use Rattle.mc_mode_state.specs.declared.part.Part.{Part}
use Rattle.mc_mode_state.specs.declared.fault.ModeFault.{ModeFault}
use Rattle.mc_mode_state.specs.declared.fault.ModeFault.TheVariants as F
use Rattle.mc_mode_state.specs.declared.fault.Failed.{Failed}
use Rattle.mc_mode_state.specs.declared.fault.Failed.TheVariants as E

abbrev pub plain_fault : ModeFault → Fault
plain_fault (F.Waits n xs) = waits n xs
plain_fault (F.NegatedBinds v) = negated_binds v
plain_fault (F.BranchesDiffer v) = branches_differ v

-- What becomes of a goal, by functions that look for nodes and types of variables.
abbrev pub Outcome : Type 0
Outcome = NodeOracle → (ℕ → TypeTerm) → Arranged ℕ

-- what a goal does when it is tried from a state, where these variables occur outside it
abbrev pub tried :
    (declared : ℕ → List Declared) → Flat_goal → (outside : List ℕ) → PlainProcs → State → Outcome
tried declared g O q s = λ C T.
    trial (of_nodes C) (source_of q) declared T g O (length s.insts.items)
    (point_of s.insts.items)

-- the point after a goal, where it is reachable
abbrev pub end_of : Bool → State → Option (Point ℕ)
end_of true t = Some (point_of t.insts.items)
end_of false t = None

-- The goal runs so, and leaves this state, whatever comes later.
pub record Ran (a : Outcome) (q r : PlainProcs) (s t : State) (p : Part) : Type 0 where
  pub outcome :
      (C : NodeOracle) (T : ℕ → TypeTerm) → OracleAgrees r t C T
      → a C T
      ≡ runs (nodes (map plain_node p.goals.items)) (end_of p.reachable t) (length t.insts.items)
      p.freshened.items
  pub fresh : NumbersBelow (length t.insts.items) p.freshened.items
  pub stepped : LaterByTrail q r s t

-- The goal breaks this rule, whatever comes later, and the state is the same.
pub record Broke (a : Outcome) (q r : PlainProcs) (s t : State) (f : ModeFault) : Type 0 where
  pub outcome :
      (C : NodeOracle) (T : ℕ → TypeTerm) → OracleAgrees r t C T → a C T ≡ breaks (plain_fault f)
  pub same : SameState s t
  pub moved : StateExtends q r s t

abbrev pub Answers :
    Outcome → (q r : PlainProcs) → (s t : State) → Result Part Failed → Type 0
Answers a q r s t (Ok p) = Ran a q r s t p
Answers a q r s t (Err (E.Fault f)) = Broke a q r s t f
Answers a q r s t (Err E.Memory) = Unit {0}

-- Where a goal has variables below a number alone, each test of others in its order compares values
-- of one type, by the types that are there, whatever comes later.
abbrev pub FreshAlike : Flat_goal → State → Part → Type 0
FreshAlike g t p =
    (T : ℕ → TypeTerm) (next : ℕ) → TypedAs t T → NumbersBelow next (variables_of g)
    → AllAlike T next (nodes (map plain_node p.goals.items))

-- the fault of an atom over these variables that waits, or want of memory
abbrev pub IsWaiting : List ℕ → Point ℕ → Failed → Type 0
IsWaiting xs b (E.Fault f) =
    plain_fault f ≡ waits 1 (ascending (λ x. not (is_bound (b x))) xs)
IsWaiting xs b E.Memory = Unit {0}
