-- The procedure of a predicate's normal goal in one of its declared modes. (Mercury Language
-- Reference Manual: Modes; this project's certificates.)
use Rattle.std.specs.Prelude.{◌≡◌, ℕ, List, length, false, Option, Some, None, Result, Ok, Err}
use Rattle.mc_source.specs.Determinism.{inferred, det}
use Rattle.mc_source.specs.declared.det.Det.{Det}
use Rattle.mc_model.specs.Flat.{variables_of}
use Rattle.mc_model.specs.PlainGoals.{plain_flat, plain_node}
use Rattle.mc_model.specs.declared.flat.Normal.{Normal}
use Rattle.mc_model.specs.declared.inst.ModeDecl.{ModeDecl}
use Rattle.mc_model.specs.declared.inst.Sig.{Sig}
use Rattle.mc_model.specs.declared.sched.Proc.{Proc}
use Rattle.mc_accepted.specs.Arranged.{in_order}
use Rattle.mc_accepted.specs.FreshTests.{TestsAlike}
use Rattle.mc_procs.specs.Named.{NumbersBelow}
use Rattle.mc_procs.specs.Procedures.{PlainProcs}
use Rattle.mc_mode_state.specs.Nodes.{type_in}
use Rattle.mc_mode_state.specs.declared.state.State.{State}
use Rattle.mc_modes.specs.Signatures.{mode_in}
use Rattle.mc_modes.specs.Fitting.{Known}
use Rattle.mc_modes.specs.Arrangements.{Becomes, Numbers, Arranges}
use Rattle.mc_modes.specs.declared.arranging.Refusal.{Refusal}

-- what a goal names is there, and it has a head variable for each inst of the mode
pub record NormalFits (q : PlainProcs) (m : ModeDecl) (g : Normal) : Type 0 where
  pub head : NumbersBelow (length g.var_types) g.head
  pub as_many : length m.first ≡ length g.head
  pub variables : NumbersBelow (length g.var_types) (variables_of (plain_flat g.body))
  pub known : Known q.program (plain_flat g.body)

-- the determinism that is declared; `det` is where the search for one that isn't begins
abbrev pub first_determinism : Option Det → Det
first_determinism (Some d) = d
first_determinism None = inferred det

-- The procedure. Its body is the goal in its order, with the insts that each of its goals changes,
-- whatever comes later; its variables' types are those of the goal, and behind them those of the
-- fresh ones, as many as the order numbers, of which each test compares values of one type. Of the
-- procedures that are there nothing changed, but that their graph may have more nodes.
pub record IsScheduled (sigs : List Sig) (g : Normal) (k : ℕ) (m : ModeDecl) (q r : PlainProcs)
    (p : Proc) : Type 0 where
  pub end : State
  pub becomes :
      Becomes sigs g.var_types g.head m.first m.last (plain_flat g.body) q r end
      (in_order (plain_node p.body))
  pub numbered :
      Numbers sigs g.var_types g.head m.first (plain_flat g.body) q r end (length p.var_types)
  pub var_types : p.var_types ≡ end.types.items
  pub alike : TestsAlike (type_in p.var_types) (length g.var_types) (plain_node p.body)
  pub pred : p.pred ≡ g.pred
  pub mode : p.mode ≡ k
  pub head : p.head ≡ g.head
  pub first : p.first ≡ m.first
  pub last : p.last ≡ m.last
  pub declared : p.declared ≡ m.det
  pub det : p.det ≡ first_determinism m.det
  pub exported : p.exported ≡ false
  pub at : p.at ≡ m.at

-- It is answered exactly where the goal has an order; else what leaves the goal without one.
abbrev pub Schedules :
    List Sig → Normal → (mode : ℕ) → (q r : PlainProcs) → Result Proc Refusal → Type 0
Schedules sigs g k q r (Ok p) = IsScheduled sigs g k (mode_in sigs g.pred k) q r p
Schedules sigs g k q r (Err e) =
    let m = mode_in sigs g.pred k in
    Arranges sigs g.var_types g.head m.first m.last (plain_flat g.body) q r (Err e)
