-- What is told of a clause's goal: its order, or the rule that it breaks. (Mercury Language
-- Reference Manual: Modes.)
use Rattle.std.specs.Prelude.{◌≡◌, ℕ, List, length, take, Result, Ok, Err}
use Rattle.mc_program.specs.Programs.{TypeTerm}
use Rattle.mc_program.specs.declared.ty.Ty.{Ty}
use Rattle.mc_model.specs.Flat.{Flat_goal}
use Rattle.mc_model.specs.PlainGoals.{plain_node}
use Rattle.mc_model.specs.declared.inst.Sig.{Sig}
use Rattle.mc_accepted.specs.Arranged.{Arranged, runs, breaks, Verdict, in_order, faulty, unmet, entry, trial, arrange}
use Rattle.mc_accepted.specs.NodeOracle.{NodeOracle, of_nodes}
use Rattle.mc_accepted.specs.FreshTests.{TestsAlike}
use Rattle.mc_insts.specs.Growing.{Grown}
use Rattle.mc_procs.specs.Procedures.{PlainProcs, source_of, with_insts}
use Rattle.mc_mode_state.specs.Nodes.{type_in}
use Rattle.mc_mode_state.specs.Agreeing.{StateInvariant, OnlyGrown}
use Rattle.mc_mode_state.specs.Answers.{plain_fault}
use Rattle.mc_mode_state.specs.declared.state.State.{State}
use Rattle.mc_modes.specs.Signatures.{declared_in}
use Rattle.mc_modes.specs.Tries.{AgreesOnClause}
use Rattle.mc_modes.specs.declared.arranging.Arrangement.{Arrangement}
use Rattle.mc_modes.specs.declared.arranging.Refusal.{Refusal}
use Rattle.mc_modes.specs.declared.arranging.Refusal.TheVariants as R

-- Whatever comes later, this becomes of the goal. The state stands for the nodes that were found
-- and for the types of the variables at its end. Of the procedures nothing changed, but that their
-- graph may have more nodes, and the nodes that were found are there.
pub record Becomes (sigs : List Sig) (types : List Ty) (head first last : List ℕ) (g : Flat_goal) (q r : PlainProcs) (end : State) (v : Verdict) : Type 0 where
  pub verdict :
      (C : NodeOracle) (T : ℕ → TypeTerm) → AgreesOnClause (length types) r end C T
      → arrange (of_nodes C) (source_of q) (declared_in sigs) T (length types) head first last g ≡ v
  pub kept : take (length types) end.types.items ≡ types
  pub stands : StateInvariant r end
  pub others : r ≡ with_insts q r.insts
  pub grown : Grown (source_of q) q.insts r.insts

-- a goal that runs numbers so many variables, fresh ones among them
abbrev pub NumbersTo : (count : ℕ) → Arranged ℕ → Type 0
NumbersTo count (runs gs end next zs) = next ≡ count
NumbersTo count (breaks f) = ⊥

-- Whatever comes later, the goal's order numbers so many variables.
abbrev pub Numbers :
    List Sig → List Ty → (head first : List ℕ) → Flat_goal → (q r : PlainProcs) → (end : State)
    → (count : ℕ) → Type 0
Numbers sigs types head first g q r end count =
    (C : NodeOracle) (T : ℕ → TypeTerm) → AgreesOnClause (length types) r end C T
    → NumbersTo count
    (trial (of_nodes C) (source_of q) (declared_in sigs) T g head (length types)
    (entry (of_nodes C) (source_of q) (declared_in sigs) T head first))

-- The order of the goal with the types of its variables, as many as it numbers, in which each test of
-- a fresh variable compares values of one type; or the fault that leaves it without one. Where memory
-- is wanting, nothing of the procedures changed but that their graph may have more nodes.
abbrev pub Arranges :
    List Sig → List Ty → (head first last : List ℕ) → Flat_goal → (q r : PlainProcs)
    → Result Arrangement Refusal → Type 0
Arranges sigs types head first last g q r (Ok a) =
    (end : State)
    × Becomes sigs types head first last g q r end (in_order (plain_node a.body))
    × Numbers sigs types head first g q r end (length a.types.items)
    × (a.types.items ≡ end.types.items)
    × TestsAlike (type_in a.types.items) (length types) (plain_node a.body)
Arranges sigs types head first last g q r (Err (R.Fault f)) =
    (end : State) × Becomes sigs types head first last g q r end (faulty (plain_fault f))
Arranges sigs types head first last g q r (Err (R.Unmet k)) =
    (end : State) × Becomes sigs types head first last g q r end (unmet k)
Arranges sigs types head first last g q r (Err R.Memory) = OnlyGrown q r
