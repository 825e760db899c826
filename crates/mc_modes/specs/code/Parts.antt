-- What code answers on branches, conditions and then parts.
use Rattle.std.specs.Prelude.{◌≡◌, ℕ, Bool, List, [], ◌++◌, length, map, Option, Some, None, Result, Ok, Err}
use Rattle.mc_program.specs.Programs.{TypeTerm, Source}
use Rattle.mc_model.specs.Flat.{Flat_goal, variables_of, free_in}
use Rattle.mc_model.specs.Lists.{without}
use Rattle.mc_model.specs.Scheduled.{Scheduled, Node, Nodes, no_nodes, node_then, nodes, Conj}
use Rattle.mc_model.specs.PlainGoals.{plain_node}
use Rattle.mc_model.specs.declared.sched.GoalNode.{GoalNode}
use Rattle.mc_model.specs.declared.inst.Sig.{Sig}
use Rattle.mc_accepted.specs.Arranged.{Point, Declared, Arranged, runs, breaks, negated_binds, Branches, all_run, one_breaks, changing, alone, with_end, binds, trial, conditional}
use Rattle.mc_accepted.specs.NodeOracle.{NodeOracle, of_nodes, other_node}
use Rattle.mc_accepted.specs.Unmarked.{unmarked}
use Rattle.mc_insts.specs.Graphs.{count_of}
use Rattle.mc_procs.specs.Procedures.{PlainProcs, source_of}
use Rattle.mc_mode_state.specs.States.{point_of, TrailRestores}
use Rattle.mc_mode_state.specs.Agreeing.{LaterByTrail}
use Rattle.mc_mode_state.specs.Answers.{plain_fault, end_of}
use Rattle.mc_mode_state.specs.Merged.{rows_at, RowsFit, Merged}
use Rattle.mc_mode_state.specs.declared.state.State.{State}
use Rattle.mc_mode_state.specs.declared.part.Part.{Part}
use Rattle.mc_mode_state.specs.declared.fault.ModeFault.{ModeFault}
use Rattle.mc_mode_state.specs.declared.fault.Failed.{Failed}
use Rattle.mc_mode_state.specs.declared.fault.Failed.TheVariants as E
use Rattle.mc_modes.specs.Signatures.{declared_in}
use Rattle.mc_modes.specs.Tries.{AgreesOnClause, Attempt, attempt_of, OutsideKnown, tells_outside, FailsWithTrail}
use Rattle.mc_modes.specs.declared.ending.Condition.{Condition}
use Rattle.mc_modes.specs.declared.ending.Begun.{Begun}

-- one goal, with what it changed
pub record IsOne (next : ℕ) (b : Point ℕ) (o : Option (Point ℕ)) (g : Scheduled) (p : Part) :
    Type 0 where
  pub goals :
      nodes (map plain_node p.goals.items)
      ≡ node_then (changing other_node next b o g) no_nodes
  pub freshened : p.freshened.items ≡ []

-- whatever state was there when the trail had this length
abbrev pub Since : (trail : ℕ) → State → (Point ℕ → Type 0) → Type 0
Since trail t X = (s : State) → TrailRestores s t → length s.trail.items ≡ trail
    → X (point_of s.insts.items)

-- one goal from there to here
abbrev pub OneSince : (trail : ℕ) → State → (reachable : Bool) → Scheduled → Part → Type 0
OneSince trail t reachable g p =
    Since trail t (λ b. IsOne (length t.insts.items) b (end_of reachable t) g p)

-- a part's goals as one, from there to here
abbrev pub alone_at : NodeOracle → State → Part → Point ℕ → Node
alone_at C t p b =
    alone (of_nodes C) (length t.insts.items) b (end_of p.reachable t)
    (nodes (map plain_node p.goals.items))

abbrev pub AloneSince : (trail : ℕ) → State → Part → GoalNode → Type 0
AloneSince trail t p g = Since trail t (λ b. (C : NodeOracle) → plain_node g ≡ alone_at C t p b)

-- these insts at reachable ends come behind those of earlier branches
pub record Ends (seen : List ℕ) (r : PlainProcs) (ends : List (Point ℕ)) (es fs : List (List ℕ)) : Type 0 where
  pub rows : fs ≡ es ++ rows_at seen ends
  pub fit : RowsFit (length seen) (count_of r.insts) (rows_at seen ends)

-- A branch runs so, whatever comes later; the insts before it are back.
pub record IsBranch (told : OutsideKnown) (a : Attempt) (seen : List ℕ) (q r : PlainProcs) (s t : State) (es fs : List (List ℕ)) (g : GoalNode) : Type 0 where
  pub goals : Nodes
  pub fresh : List ℕ
  pub end : Option (Point ℕ)
  pub outcome :
      (first : ℕ) (O : List ℕ) (C : NodeOracle) (T : ℕ → TypeTerm) → told first O
      → AgreesOnClause first r t C T → a O C T ≡ runs goals end (length t.insts.items) fresh
  pub goal :
      (C : NodeOracle)
      → plain_node g
      ≡ alone (of_nodes C) (length t.insts.items) (point_of s.insts.items) end goals
  pub ends : Ends seen r (with_end end []) es fs
  pub point : point_of t.insts.items ≡ point_of s.insts.items
  pub stepped : LaterByTrail q r s t

abbrev pub DoesBranch :
    OutsideKnown → Attempt → (seen : List ℕ) → (q r : PlainProcs) → (s t : State)
    → (es fs : List (List ℕ))
    → Result GoalNode Failed → Type 0
DoesBranch told a seen q r s t es fs (Ok g) = IsBranch told a seen q r s t es fs g
DoesBranch told a seen q r s t es fs (Err (E.Fault f)) = FailsWithTrail told a q r s t f
DoesBranch told a seen q r s t es fs (Err E.Memory) = Unit {0}

-- what branches do, by what occurs outside
abbrev pub Tries : Type 0
Tries = (outside : List ℕ) → NodeOracle → (ℕ → TypeTerm) → Branches ℕ

pub record AreBranches (told : OutsideKnown) (a : Tries) (seen : List ℕ) (q r : PlainProcs) (s t : State) (es fs : List (List ℕ)) (gs : List GoalNode) : Type 0 where
  pub reached : List (Point ℕ)
  pub outcome :
      (first : ℕ) (O : List ℕ) (C : NodeOracle) (T : ℕ → TypeTerm) → told first O
      → AgreesOnClause first r t C T
      → a O C T ≡ all_run (nodes (map plain_node gs)) reached (length t.insts.items)
  pub ends : Ends seen r reached es fs
  pub point : point_of t.insts.items ≡ point_of s.insts.items
  pub stepped : LaterByTrail q r s t

-- one breaks this rule; the trail leads back
pub record OneBreaks (told : OutsideKnown) (a : Tries) (q r : PlainProcs) (s t : State) (f : ModeFault) : Type 0 where
  pub outcome :
      (first : ℕ) (O : List ℕ) (C : NodeOracle) (T : ℕ → TypeTerm) → told first O
      → AgreesOnClause first r t C T → a O C T ≡ one_breaks (plain_fault f)
  pub stepped : LaterByTrail q r s t

abbrev pub DoBranches :
    OutsideKnown → Tries → (seen : List ℕ) → (q r : PlainProcs) → (s t : State)
    → (es fs : List (List ℕ)) → Result (List GoalNode) Failed → Type 0
DoBranches told a seen q r s t es fs (Ok gs) = AreBranches told a seen q r s t es fs gs
DoBranches told a seen q r s t es fs (Err (E.Fault f)) = OneBreaks told a q r s t f
DoBranches told a seen q r s t es fs (Err E.Memory) = Unit {0}

-- a condition that runs, and the least of these variables that it binds
pub record IsCondition (told : OutsideKnown) (a : Attempt) (xs : List ℕ) (q r : PlainProcs) (s t : State) (c : Condition) : Type 0 where
  pub goals : Nodes
  pub fresh : List ℕ
  pub outcome :
      (first : ℕ) (O : List ℕ) (C : NodeOracle) (T : ℕ → TypeTerm) → told first O
      → AgreesOnClause first r t C T
      → a O C T ≡ runs goals (end_of c.reachable t) (length t.insts.items) fresh
  pub goal :
      (C : NodeOracle)
      → plain_node c.goal
      ≡ alone (of_nodes C) (length t.insts.items) (point_of s.insts.items) (end_of c.reachable t)
      goals
  pub bound :
      (C : NodeOracle) (P : Source) (declared : ℕ → List Declared) (T : ℕ → TypeTerm)
      → binds (of_nodes C) P declared T xs (point_of s.insts.items) (end_of c.reachable t)
      ≡ c.bound
  pub stepped : LaterByTrail q r s t

abbrev pub DoesTest :
    OutsideKnown → Attempt → List ℕ → (q r : PlainProcs) → (s t : State) → Result Condition Failed
    → Type 0
DoesTest told a xs q r s t (Ok c) = IsCondition told a xs q r s t c
DoesTest told a xs q r s t (Err (E.Fault f)) = FailsWithTrail told a q r s t f
DoesTest told a xs q r s t (Err E.Memory) = Unit {0}

-- A then part, from the point after the condition; behind an unreachable point it stands as the
-- empty conjunction.
abbrev pub then_at : Option (Point ℕ) → (next : ℕ) → (ℕ → Point ℕ → Arranged ℕ) → Arranged ℕ
then_at None n t = runs (node_then (unmarked (Conj no_nodes)) no_nodes) None n []
then_at (Some c) n t = t n c

abbrev pub trying_beside : List ℕ → List Sig → Flat_goal → PlainProcs → State → Attempt
trying_beside vs sigs g q s = λ O. attempt_of sigs g q s (O ++ vs)

abbrev pub then_try : Bool → List ℕ → List Sig → Flat_goal → PlainProcs → State → Attempt
then_try reachable vs sigs g q s = λ O C T.
    then_at (end_of reachable s) (length s.insts.items)
    (λ n c. trial (of_nodes C) (source_of q) (declared_in sigs) T g (O ++ vs) n c)

-- the insts from which a then part goes, which is never run behind an unreachable point
abbrev pub GoesFrom : Option (Point ℕ) → Point ℕ → Type 0
GoesFrom None b = Unit {0}
GoesFrom (Some c) b = c ≡ b

-- a goal whose branches are merged
abbrev pub MergedAs :
    Scheduled → (own seen : List ℕ) → (rows : List (List ℕ)) → (q r : PlainProcs)
    → (s t : State) → Result Part Failed → Type 0
MergedAs g own seen rows q r s t (Ok p) =
    Merged own seen rows q r s t (Ok p.reachable)
    × IsOne (length t.insts.items) (point_of s.insts.items) (end_of p.reachable t) g p
MergedAs g own seen rows q r s t (Err e) = Merged own seen rows q r s t (Err e)

-- a condition must not bind that variable
abbrev pub ForbiddenBy : ℕ → (q r : PlainProcs) → (s t : State) → Result Part Failed → Type 0
ForbiddenBy x q r s t (Ok p) = ⊥
ForbiddenBy x q r s t (Err (E.Fault f)) = (plain_fault f ≡ negated_binds x) × (r ≡ q) × (t ≡ s)
ForbiddenBy x q r s t (Err E.Memory) = Unit {0}

abbrev pub ChosenAs :
    (bound_by_condition : Option ℕ) → Scheduled → (own seen : List ℕ) → (rows : List (List ℕ))
    → (q r : PlainProcs) → (s t : State) → Result Part Failed → Type 0
ChosenAs None g own seen rows q r s t result = MergedAs g own seen rows q r s t result
ChosenAs (Some x) g own seen rows q r s t result = ForbiddenBy x q r s t result

module _ (vs : List ℕ) (g h : Flat_goal) (sigs : List Sig) (q : PlainProcs) (s : State) where
  -- the condition's free variables that it doesn't quantify
  abbrev pub outer_of : List ℕ
  outer_of = without (free_in g) vs

  abbrev pub trial_of : Flat_goal → List ℕ → NodeOracle → (ℕ → TypeTerm) → (next : ℕ) → Point ℕ → Arranged ℕ
  trial_of k O C T = trial (of_nodes C) (source_of q) (declared_in sigs) T k O

  abbrev pub condition_does : Attempt
  condition_does O C T =
      trial_of g (O ++ (outer_of ++ variables_of h)) C T (length s.insts.items)
      (point_of s.insts.items)

  abbrev pub then_does : List ℕ → NodeOracle → (ℕ → TypeTerm) → (next : ℕ) → Point ℕ → Arranged ℕ
  then_does O C T n c = trial_of h (O ++ variables_of g) C T n c

  -- A condition and a then part run so, whatever comes later; the insts before them are back.
  pub record IsBegun (seen : List ℕ) (r : PlainProcs) (t : State) (es fs : List (List ℕ)) (b : Begun) : Type 0 where
    pub goals : Nodes
    pub fresh : List ℕ
    pub middle : Option (Point ℕ)
    pub from : Point ℕ
    pub next : ℕ
    pub then_goals : Nodes
    pub then_fresh : List ℕ
    pub end : Option (Point ℕ)
    pub condition :
        (first : ℕ) (O : List ℕ) (C : NodeOracle) (T : ℕ → TypeTerm)
        → tells_outside (variables_of g ++ variables_of h) s first O → AgreesOnClause first r t C T
        → condition_does O C T ≡ runs goals middle next fresh
    pub then_part :
        (first : ℕ) (O : List ℕ) (C : NodeOracle) (T : ℕ → TypeTerm)
        → tells_outside (variables_of g ++ variables_of h) s first O → AgreesOnClause first r t C T
        → then_at middle next (then_does O C T)
        ≡ runs then_goals end (length t.insts.items) then_fresh
    pub goes_from : GoesFrom middle from
    pub condition_goal :
        (C : NodeOracle)
        → plain_node b.condition ≡ alone (of_nodes C) next (point_of s.insts.items) middle goals
    pub then_goal :
        (C : NodeOracle)
        → plain_node b.then_part ≡ alone (of_nodes C) (length t.insts.items) from end then_goals
    pub bound :
        (C : NodeOracle) (P : Source) (declared : ℕ → List Declared) (T : ℕ → TypeTerm)
        → binds (of_nodes C) P declared T outer_of (point_of s.insts.items) middle ≡ b.bound
    pub ends : Ends seen r (with_end end []) es fs
    pub point : point_of t.insts.items ≡ point_of s.insts.items
    pub stepped : LaterByTrail q r s t

  -- one of them breaks this rule, whatever comes later
  pub record BreaksBefore (r : PlainProcs) (t : State) (f : ModeFault) : Type 0 where
    pub outcome :
        (first : ℕ) (O : List ℕ) (C : NodeOracle) (T : ℕ → TypeTerm)
        → tells_outside (variables_of g ++ variables_of h) s first O → AgreesOnClause first r t C T
        → (own : List ℕ) (else_part : ℕ → Arranged ℕ)
        → conditional (of_nodes C) (source_of q) (declared_in sigs) T vs outer_of own O
        (point_of s.insts.items) (condition_does O C T) (then_does O C T) else_part
        ≡ breaks (plain_fault f)
    pub stepped : LaterByTrail q r s t

  abbrev pub DoesTestAndThen :
      (seen : List ℕ) → (r : PlainProcs) → (t : State) → (es fs : List (List ℕ))
      → Result Begun Failed → Type 0
  DoesTestAndThen seen r t es fs (Ok b) = IsBegun seen r t es fs b
  DoesTestAndThen seen r t es fs (Err (E.Fault f)) = BreaksBefore r t f
  DoesTestAndThen seen r t es fs (Err E.Memory) = Unit {0}
