-- Procedures whose bodies are in switch form. (Mercury Language Reference Manual: Determinism,
-- switches.)
use Rattle.std.specs.Prelude.{◌≡◌, ℕ, ◌<◌, ◌≤◌, List, length, get_or, false}
use Rattle.mc_program.specs.Values.{Val}
use Rattle.mc_program.specs.declared.builtin.Builtin.{Builtin}
use Rattle.mc_model.specs.Outcomes.{Outcome}
use Rattle.mc_source.specs.Determinism.{is_zero}
use Rattle.mc_source.specs.declared.det.Det.{Det}
use Rattle.mc_model.specs.Good.{System}
use Rattle.mc_model.specs.PlainGoals.{plain_node, plain_proc}
use Rattle.mc_model.specs.declared.sched.GoalNode.{GoalNode}
use Rattle.mc_model.specs.declared.sched.Proc.{Proc}
use Rattle.mc_accepted.specs.Accepted.{entered}
use Rattle.mc_accepted.specs.Inferred.{DeclaredSystem, Closed, system_of}
use Rattle.mc_accepted.specs.Fits.{type_of}
use Rattle.mc_accepted.specs.Ordered.{Insts}
use Rattle.mc_accepted.specs.Switched.{Kept, formed}
use Rattle.mc_det.specs.Determinisms.{declared_system}
use Rattle.mc_insts.specs.Graphs.{count_of}
use Rattle.mc_insts.specs.Growing.{Grown}
use Rattle.mc_procs.specs.Procedures.{PlainProcs, source_of, insts_of, with_insts, with_procs}
use Rattle.mc_procs.specs.VariableTypes.{type_in}
use Rattle.mc_mode_state.specs.Tables.{Entry}
use Rattle.mc_switch.specs.Kept.{Suits, Extends, AreMerged, kept_by, has_no_answer, never_answers}

-- The body is the switch form of the procedure's in each system that suits. What is kept of arms goes
-- by insts that were found, each of which stands for those that it was merged from. What else may be
-- found later makes no difference, so all that is asked for was found.
pub record IsForm (q : PlainProcs) (p : Proc) (body : GoalNode) : Type 0 where
  pub found : List Entry
  pub merged : AreMerged q p.var_types found
  pub form :
      (S : System) (M : List Entry) → Suits q S → Extends found M
      → plain_node body
      ≡ formed S (type_in p.var_types) (kept_by S (type_in p.var_types) M (length p.var_types))
      (entered p.head p.first) (plain_node p.body)

-- a procedure is as it was but for its body, which is in switch form
pub record IsSwitched (q : PlainProcs) (before after : Proc) : Type 0 where
  pub others : after ≡ record before { body = after.body }
  pub form : IsForm q before after.body

-- The procedures are as they were but for their bodies, which are in switch form over the graph as it
-- grew; older insts are what they were.
pub record Switches (before after : PlainProcs) : Type 0 where
  pub others : after ≡ with_procs (with_insts before after.insts) after.added
  pub count : length after.added ≡ length before.added
  pub grown : Grown (source_of before) before.insts after.insts
  pub switched :
      (k : ℕ) (d : Proc)
      → k < length before.added
      → IsSwitched (with_insts before after.insts) (get_or before.added k d)
      (get_or after.added k d)

-- Whose declarations and insts these are.
pub record IsOf (q : PlainProcs) (D : DeclaredSystem) : Type 0 where
  pub source : D.world.source ≡ source_of q
  pub insts : (i : ℕ) → i < count_of q.insts → D.insts i ≡ insts_of q i
  pub count : D.count ≡ length q.added
  pub declared : (k : ℕ) → has_no_answer (D.procs k).declared ≡ never_answers q.added k
  pub others : (k : ℕ) → D.count ≤ k → is_zero (D.procs k).procedure.det.most ≡ false

-- The law of systems that suit: where determinisms are closed, the system suits.
abbrev pub ClosedSuit : Type 0
ClosedSuit =
    (q : PlainProcs) (D : DeclaredSystem) (ds : ℕ → Det) → IsOf q D → Closed D ds → Suits q (system_of D ds)

-- The law of switch forms: under closed determinisms each body is the switch form of what it was, for
-- some insts that are kept of arms.
abbrev pub ClosedForms : Type 0
ClosedForms =
    (outcome : Builtin → List Val → Outcome) (before after : PlainProcs) (ds : ℕ → Det)
    → Switches before after → Closed (declared_system outcome after) ds → (k : ℕ) (d : Proc)
    → k < length before.added
    → (kept : (b c : Insts) → Kept)
    × (plain_node (get_or after.added k d).body
    ≡ formed (system_of (declared_system outcome after) ds)
    (type_of (system_of (declared_system outcome after) ds) (plain_proc (get_or before.added k d)))
    kept (entered (get_or before.added k d).head (get_or before.added k d).first)
    (plain_node (get_or before.added k d).body))
