-- Functions that look for nodes, and types of variables, that agree with what is there. Those of
-- every later moment agree with what is there now.
use Rattle.std.specs.Prelude.{◌≡◌, ◌↔◌, ℕ, ◌<◌, List, length, get_or, take, Some, true}
use Rattle.mc_program.specs.Programs.{TypeTerm}
use Rattle.mc_accepted.specs.Determined.{is_dead}
use Rattle.mc_accepted.specs.Forms.{node_takes_constants}
use Rattle.mc_accepted.specs.Inclusion.{Included}
use Rattle.mc_accepted.specs.NodeOracle.{NodeOracle}
use Rattle.mc_insts.specs.Graphs.{count_of}
use Rattle.mc_insts.specs.Growing.{Grown}
use Rattle.mc_insts.specs.Narrowed.{Narrowed}
use Rattle.mc_procs.specs.Procedures.{PlainProcs, source_of, insts_of, with_insts}
use Rattle.mc_procs.specs.Fitting.{AllFit}
use Rattle.mc_mode_state.specs.Tables.{node_in}
use Rattle.mc_mode_state.specs.Nodes.{type_in, NodesAre, NodesMoved}
use Rattle.mc_mode_state.specs.States.{TrailWithin, SameLengths, Later}
use Rattle.mc_mode_state.specs.declared.state.State.{State}

-- the variables that are there have these types
abbrev pub TypedAs : State → (ℕ → TypeTerm) → Type 0
TypedAs s T = (x : ℕ) → x < length s.types.items → T x ≡ type_in s.types.items x

-- The functions tell the truth of the insts that are there, and find what was found; the variables
-- that are there have these types.
pub record OracleAgrees (q : PlainProcs) (s : State) (C : NodeOracle)
    (T : ℕ → TypeTerm) : Type 0 where
  pub dies : (i : ℕ) → i < count_of q.insts → C.is_dead i ≡ is_dead (insts_of q i)
  pub constants :
      (i : ℕ) → i < count_of q.insts → C.takes_constants i
      ≡ node_takes_constants (source_of q) (insts_of q) (insts_of q i)
  pub narrowed :
      (i f : ℕ) → i < count_of q.insts
      → Narrowed (source_of q) (insts_of q) i f (C.narrowed i f)
  pub fits :
      (i j : ℕ) (t : TypeTerm) → i < count_of q.insts → j < count_of q.insts
      → (C.fits i j t ≡ true) ↔ Included (source_of q) (insts_of q) i j t
  pub over :
      (f k : ℕ) (is : List ℕ) → node_in s.nodes.overs f is ≡ Some k → C.over f is ≡ Some k
  pub joined :
      (r k : ℕ) (is : List ℕ) → node_in s.nodes.joins r is ≡ Some k
      → C.joined (type_in s.nodes.types.items r) is ≡ Some k
  pub types : TypedAs s T

-- A state stands over procedures: they fit, its insts are nodes of their graph, and the nodes that
-- were found are what they were looked for as.
pub record StateInvariant (q : PlainProcs) (s : State) : Type 0 where
  pub fit : AllFit q
  pub even : SameLengths s
  pub insts : (x : ℕ) → get_or s.insts.items x 0 < count_of q.insts
  pub trail : TrailWithin (length s.insts.items) s.trail.items
  pub nodes : NodesAre (source_of q) q.insts s.nodes

-- nothing that was there was changed or forgotten
pub record StateExtends (q r : PlainProcs) (s t : State) : Type 0 where
  pub nodes : NodesMoved q r s.nodes t.nodes
  pub types : take (length s.types.items) t.types.items ≡ s.types.items
  pub stands : StateInvariant r t

-- a later state, from which the trail leads back
pub record LaterByTrail (q r : PlainProcs) (s t : State) : Type 0 where
  pub later : Later s t
  pub moved : StateExtends q r s t

-- Of the procedures nothing changed, but that their graph may have more nodes. So it is after every
-- refusal, want of memory too.
pub record OnlyGrown (q r : PlainProcs) : Type 0 where
  pub others : r ≡ with_insts q r.insts
  pub grown : Grown (source_of q) q.insts r.insts
