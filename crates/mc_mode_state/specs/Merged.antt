-- What branches leave: what the insts of variables at their ends are merged to.
use Rattle.std.specs.Prelude.{◌≡◌, ℕ, Bool, List, [], ◌∷◌, length, map, None, Result, Ok, Err}
use Rattle.mc_program.specs.Programs.{TypeTerm}
use Rattle.mc_model.specs.Lists.{is_in}
use Rattle.mc_model.specs.Scheduled.{Scheduled, Nodes}
use Rattle.mc_accepted.specs.Arranged.{Point, Arranged, Declared, all_run, one, breaks, branched}
use Rattle.mc_accepted.specs.NodeOracle.{NodeOracle, of_nodes}
use Rattle.mc_procs.specs.Named.{NumbersBelow}
use Rattle.mc_procs.specs.Procedures.{PlainProcs, source_of}
use Rattle.mc_mode_state.specs.States.{point_of, is_outside}
use Rattle.mc_mode_state.specs.Agreeing.{OracleAgrees, LaterByTrail}
use Rattle.mc_mode_state.specs.Answers.{plain_fault, end_of}
use Rattle.mc_mode_state.specs.declared.state.State.{State}
use Rattle.mc_mode_state.specs.declared.fault.Failed.{Failed}
use Rattle.mc_mode_state.specs.declared.fault.Failed.TheVariants as E

-- the insts of variables at each end
abbrev pub rows_at : List ℕ → List (Point ℕ) → List (List ℕ)
rows_at xs ends = map (λ (c : Point ℕ). map c xs) ends

-- each row has so many insts, which are there
abbrev pub RowsFit : (many insts : ℕ) → List (List ℕ) → Type 0
RowsFit m n [] = Unit {0}
RowsFit m n (row ∷ rows) = (length row ≡ m) × NumbersBelow n row × RowsFit m n rows

-- Branches that all run, to ends where the seen variables have these insts, come to this, whatever
-- comes later.
abbrev pub Leave :
    (own seen : List ℕ) → (rows : List (List ℕ)) → (q r : PlainProcs) → (s t : State)
    → (NodeOracle → (Nodes → Scheduled) → Nodes → (next : ℕ) → Arranged ℕ) → Type 0
Leave own seen rows q r s t left =
    (ends : List (Point ℕ)) (O : List ℕ) (declared : ℕ → List Declared) (f : Nodes → Scheduled)
    (gs : Nodes) (n : ℕ) (C : NodeOracle) (T : ℕ → TypeTerm)
    → rows ≡ rows_at seen ends → ((x : ℕ) → is_in x O ≡ is_outside s.outside.items x)
    → OracleAgrees r t C T
    → branched (of_nodes C) (source_of q) declared T None f own O (point_of s.insts.items)
    (all_run gs ends n)
    ≡ left C f gs n

-- The ends are merged, and whether one is reachable; or the rule that is broken. Either way the trail
-- leads back.
abbrev pub Merged :
    (own seen : List ℕ) → (rows : List (List ℕ)) → (q r : PlainProcs) → (s t : State)
    → Result Bool Failed → Type 0
Merged own seen rows q r s t (Ok reachable) =
    Leave own seen rows q r s t
    (λ C f gs n. one (of_nodes C) (point_of s.insts.items) (f gs) (end_of reachable t) n)
    × LaterByTrail q r s t
Merged own seen rows q r s t (Err (E.Fault e)) =
    Leave own seen rows q r s t (λ C f gs n. breaks (plain_fault e)) × LaterByTrail q r s t
Merged own seen rows q r s t (Err E.Memory) = Unit {0}
