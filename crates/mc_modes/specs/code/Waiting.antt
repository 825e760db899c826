-- The waiting goals of a conjunction, by their places among its goals, which all count among what
-- occurs outside.
use Rattle.std.specs.Prelude.{◌≡◌, ◌<◌, ◌≤◌, ℕ, ◌-◌, not, nat_eq, List, [], ◌∷◌, ◌++◌, map, length, get_or, Option, Some, None}
use Rattle.std.specs.List.{remove}
use Rattle.mc_program.specs.Programs.{TypeTerm, Source}
use Rattle.mc_model.specs.Flat.{Flat_goal, And, no_flat, variables_of}
use Rattle.mc_model.specs.Lists.{is_in}
use Rattle.mc_model.specs.Scheduled.{nodes}
use Rattle.mc_model.specs.Stream.{is_bound}
use Rattle.mc_model.specs.PlainGoals.{plain_flat, plain_node}
use Rattle.mc_model.specs.declared.flat.Flat.{Flat}
use Rattle.mc_model.specs.declared.inst.Sig.{Sig}
use Rattle.mc_accepted.specs.Arranged.{Operations, Point, Declared, Fault, Waiting, Picked, takes, none_runs, waits, ascending, with_fresh, pick, in_turn, trial}
use Rattle.mc_accepted.specs.NodeOracle.{NodeOracle, of_nodes}
use Rattle.mc_accepted.specs.Ordered.{times_in}
use Rattle.mc_procs.specs.Named.{NumbersBelow}
use Rattle.mc_procs.specs.Procedures.{PlainProcs, source_of}
use Rattle.mc_mode_state.specs.States.{point_of, SameState}
use Rattle.mc_mode_state.specs.Agreeing.{StateExtends, LaterByTrail}
use Rattle.mc_mode_state.specs.Answers.{plain_fault, end_of}
use Rattle.mc_mode_state.specs.declared.state.State.{State}
use Rattle.mc_mode_state.specs.declared.part.Part.{Part}
use Rattle.mc_mode_state.specs.declared.fault.ModeFault.{ModeFault}
use Rattle.mc_mode_state.specs.declared.fault.ModeFault.TheVariants as F
use Rattle.mc_modes.specs.Signatures.{declared_in}
use Rattle.mc_modes.specs.Tries.{AgreesOnClause, Attempt, OutsideKnown}
use Rattle.mc_modes.specs.declared.waiting.Found.{Found}
use Rattle.mc_modes.specs.declared.waiting.Found.TheVariants as V

-- no place is past the end
abbrev pub nothing : Flat_goal
nothing = And no_flat

-- the goals in these places
abbrev pub goals_at : List Flat → (places : List ℕ) → List Flat_goal
goals_at gs ks = map (λ k. get_or (map plain_flat gs) k nothing) ks

abbrev pub variables_of_each : List Flat_goal → List ℕ
variables_of_each [] = []
variables_of_each (g ∷ gs) = variables_of g ++ variables_of_each gs

-- These variables are the clause's own, and the list tells what occurs outside goals over them, all
-- of which count among what occurs outside.
abbrev pub tells_around : List ℕ → State → OutsideKnown
tells_around vs s first O =
    (first ≤ length s.insts.items)
    × NumbersBelow first vs
    × ((x : ℕ) → is_in x O ≡ not (nat_eq (get_or s.outside.items x 0 - times_in x vs) 0))

abbrev pub Counted : List ℕ → State → Type 0
Counted vs s = (x : ℕ) → times_in x vs ≤ get_or s.outside.items x 0

module _ (Op : Operations ℕ) (P : Source) (declared : ℕ → List Declared) (T : ℕ → TypeTerm) where
  abbrev pub waiting_at : Flat_goal → Waiting ℕ
  waiting_at g = record { variables = variables_of g; trial = trial Op P declared T g }

  abbrev pub all_waiting : List Flat_goal → List (Waiting ℕ)
  all_waiting gs = map waiting_at gs

-- what a pass over waiting goals finds
abbrev pub Pass : Type 0
Pass = (outside : List ℕ) → NodeOracle → (ℕ → TypeTerm) → Picked ℕ

abbrev pub picking : List Sig → List Flat_goal → PlainProcs → State → Pass
picking sigs gs q s = λ O C T.
    pick [] (all_waiting (of_nodes C) (source_of q) (declared_in sigs) T gs) O
    (length s.insts.items) (point_of s.insts.items)

-- what goals in turn do
abbrev pub turns : List Sig → List Flat_goal → PlainProcs → State → Attempt
turns sigs gs q s = λ O C T.
    in_turn (of_nodes C) (source_of q) (declared_in sigs) T (length gs)
    (all_waiting (of_nodes C) (source_of q) (declared_in sigs) T gs) O (length s.insts.items)
    (point_of s.insts.items)

-- the fault that was found first, if it is of more than waiting goals
abbrev pub noted : Option ModeFault → ModeFault → Option ModeFault
noted (Some f) g = Some f
noted None (F.Waits n vs) = None
noted None (F.NegatedBinds v) = Some (F.NegatedBinds v)
noted None (F.BranchesDiffer v) = Some (F.BranchesDiffer v)

abbrev pub plain_found : Option ModeFault → Option Fault
plain_found None = None
plain_found (Some f) = Some (plain_fault f)

-- the fault of a conjunction of which these goals wait and none runs
abbrev pub IsStuck : Point ℕ → List Flat_goal → Option ModeFault → ModeFault → Type 0
IsStuck b gs (Some found) f = f ≡ found
IsStuck b gs None f =
    plain_fault f
    ≡ waits (length gs) (ascending (λ x. not (is_bound (b x))) (variables_of_each gs))

-- the waiting goal in this place is the first that runs, whatever comes later
pub record IsReady (sigs : List Sig) (gs : List Flat_goal) (q r : PlainProcs) (s t : State) (k : ℕ) (p : Part) : Type 0 where
  pub place : k < length gs
  pub outcome :
      (first : ℕ) (O : List ℕ) (C : NodeOracle) (T : ℕ → TypeTerm)
      → tells_around (variables_of_each gs) s first O → AgreesOnClause first r t C T
      → picking sigs gs q s O C T
      ≡ takes (with_fresh (variables_of (get_or gs k nothing)) p.freshened.items)
      (all_waiting (of_nodes C) (source_of q) (declared_in sigs) T (remove gs k))
      (nodes (map plain_node p.goals.items)) (end_of p.reachable t) (length t.insts.items)
  pub fresh : NumbersBelow (length t.insts.items) p.freshened.items
  pub stepped : LaterByTrail q r s t

-- none runs, whatever comes later, and the state is the same
pub record NoneIsReady (sigs : List Sig) (gs : List Flat_goal) (q r : PlainProcs) (s t : State) (f : Option ModeFault) : Type 0 where
  pub outcome :
      (first : ℕ) (O : List ℕ) (C : NodeOracle) (T : ℕ → TypeTerm)
      → tells_around (variables_of_each gs) s first O → AgreesOnClause first r t C T → picking sigs gs q s O C T ≡ none_runs (plain_found f)
  pub same : SameState s t
  pub moved : StateExtends q r s t

abbrev pub Finds :
    List Sig → List Flat_goal → (q r : PlainProcs) → (s t : State) → Found → Type 0
Finds sigs gs q r s t (V.Ready k p) = IsReady sigs gs q r s t k p
Finds sigs gs q r s t (V.NoneReady f) = NoneIsReady sigs gs q r s t f
