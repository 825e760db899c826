-- The beginning of a clause's goal, and how one that runs is judged by its end.
use Rattle.std.specs.Prelude.{◌≡◌, ℕ, Bool, List, Option, Some, None, Result, Ok, Err}
use Rattle.mc_program.specs.Programs.{TypeTerm, Source}
use Rattle.mc_program.specs.declared.ty.Ty.{Ty}
use Rattle.mc_model.specs.Lists.{is_in}
use Rattle.mc_model.specs.declared.sched.GoalNode.{GoalNode}
use Rattle.mc_accepted.specs.Arranged.{Point, Declared, entry, first_unmet}
use Rattle.mc_accepted.specs.NodeOracle.{NodeOracle, of_nodes}
use Rattle.mc_procs.specs.Procedures.{PlainProcs, source_of}
use Rattle.mc_mode_state.specs.States.{point_of, is_outside}
use Rattle.mc_mode_state.specs.Agreeing.{OracleAgrees, StateInvariant, LaterByTrail, OnlyGrown}
use Rattle.mc_mode_state.specs.Answers.{end_of}
use Rattle.mc_mode_state.specs.declared.state.State.{State}
use Rattle.mc_mode_state.specs.declared.part.Part.{Part}
use Rattle.mc_modes.specs.code.Parts.{AloneSince}
use Rattle.mc_modes.specs.declared.arranging.Arrangement.{Arrangement}
use Rattle.mc_modes.specs.declared.arranging.Refusal.{Refusal}
use Rattle.mc_modes.specs.declared.arranging.Refusal.TheVariants as R

-- The head's variables alone occur outside and have insts, and the variables have these types.
pub record IsBeginning (types : List Ty) (head first : List ℕ) (q : PlainProcs) (s : State) : Type 0 where
  pub typed : s.types.items ≡ types
  pub point :
      (P : Source) (declared : ℕ → List Declared) (C : NodeOracle) (T : ℕ → TypeTerm)
      → entry (of_nodes C) P declared T head first ≡ point_of s.insts.items
  pub outside : (x : ℕ) → is_outside s.outside.items x ≡ is_in x head
  pub stands : StateInvariant q s

-- the first argument whose final inst isn't met, where the end is reachable
abbrev pub unmet_at :
    NodeOracle → Source → (ℕ → List Declared) → (ℕ → TypeTerm) → (head last : List ℕ)
    → Option (Point ℕ) → Option ℕ
unmet_at C P declared T head last None = None
unmet_at C P declared T head last (Some c) =
    first_unmet (of_nodes C) P declared T 0 head last c

-- Whatever comes later, it is the argument in this place, if any.
pub record IsUnmet (head last : List ℕ) (reachable : Bool) (q r : PlainProcs) (s : State) (place : Option ℕ) : Type 0 where
  pub unmet :
      (declared : ℕ → List Declared) (C : NodeOracle) (T : ℕ → TypeTerm) → OracleAgrees r s C T
      → unmet_at C (source_of q) declared T head last (end_of reachable s) ≡ place
  pub stepped : LaterByTrail q r s s

abbrev pub Judges :
    (head last : List ℕ) → Part → (trail : ℕ) → (q r : PlainProcs) → State
    → Result Arrangement Refusal → Type 0
Judges head last p trail q r s (Ok a) =
    IsUnmet head last p.reachable q r s None × (a.types ≡ s.types) × AloneSince trail s p a.body
Judges head last p trail q r s (Err (R.Fault f)) = ⊥
Judges head last p trail q r s (Err (R.Unmet k)) = IsUnmet head last p.reachable q r s (Some k)
Judges head last p trail q r s (Err R.Memory) = OnlyGrown q r

-- the same of the goal alone
abbrev pub JudgesGoal :
    (head last : List ℕ) → Part → (trail : ℕ) → (q r : PlainProcs) → State
    → Result GoalNode Refusal → Type 0
JudgesGoal head last p trail q r s (Ok n) =
    IsUnmet head last p.reachable q r s None × AloneSince trail s p n
JudgesGoal head last p trail q r s (Err (R.Fault f)) = ⊥
JudgesGoal head last p trail q r s (Err (R.Unmet k)) =
    IsUnmet head last p.reachable q r s (Some k)
JudgesGoal head last p trail q r s (Err R.Memory) = OnlyGrown q r
