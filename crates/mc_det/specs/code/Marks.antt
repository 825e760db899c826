-- What a walk that marks a body leaves as it is, and the determinisms that parts bring with them.
use Rattle.std.specs.Prelude.{◌≡◌, ℕ, ◌<◌, ◌||◌, Bool, List, length, get_or}
use Rattle.mc_program.specs.declared.ty.Ty.{Ty}
use Rattle.mc_source.specs.Determinism.{Determinism, inferred, row_of, conj, disj, det, failure, erroneous}
use Rattle.mc_source.specs.declared.det.Det.{Det}
use Rattle.mc_model.specs.Scheduled.{Scheduled, Node, node, Nodes, no_nodes, node_then, Arms, no_arms, arm_then}
use Rattle.mc_model.specs.Good.{System}
use Rattle.mc_accepted.specs.Determined.{insts_after, determined_in}
use Rattle.mc_accepted.specs.Inferred.{with_determinisms, join}
use Rattle.mc_model.specs.declared.sched.Proc.{Proc}
use Rattle.mc_procs.specs.Fitting.{ProcedureFits}
use Rattle.mc_procs.specs.Procedures.{PlainProcs, procedure_at}
use Rattle.mc_det_constraints.specs.Least.{assigned}
use Rattle.mc_det.specs.Marked.{marked, marked_in}
use Rattle.mc_det.specs.declared.walk.Walk.{Walk}
use Rattle.mc_det.specs.code.Facts.{known_in}
use Rattle.mc_det.specs.code.Points.{insts_in}
use Rattle.mc_det.specs.code.Walks.{typed, InSystems}

-- the point and what is known are as before
pub record Stays (before after : Walk) : Type 0 where
  pub point : after.point ≡ before.point
  pub known : after.known.items ≡ before.known.items

-- a system whose procedures have these determinisms
abbrev pub under : List Det → System → System
under ds S = with_determinisms S (assigned ds)

-- the determinism that a goal has as its mark, and that of parts by their marks
abbrev pub mark_of : Node → Determinism
mark_of (node s changes d is_pruned) = row_of d

abbrev pub all_told : Nodes → Determinism
all_told no_nodes = det
all_told (node_then n ns) = conj (mark_of n) (all_told ns)

abbrev pub any_told : Nodes → Determinism
any_told no_nodes = failure
any_told (node_then n ns) = disj (mark_of n) (any_told ns)

abbrev pub arms_told : Arms → Determinism
arms_told no_arms = erroneous
arms_told (arm_then l n arms) = join (mark_of n) (arms_told arms)

-- a switch that misses a symbol, or doesn't, over its arms
abbrev pub switched : (is_missed : Bool) → Determinism → Determinism
switched is_missed d = record { can_fail = is_missed || d.can_fail; most = d.most }

module _ (q : PlainProcs) (types : List Ty) (ds : List Det) (at : Walk) where
  -- a goal with its mark and those of its parts, where procedures have these determinisms
  abbrev pub NodeMarked : (before after : Node) → Type 0
  NodeMarked n m =
      InSystems q
      (λ S. m ≡ marked (under ds S) (typed types) (insts_in at.point) (known_in at.known.items) n)

  -- the same of a then part, which stands after its condition
  abbrev pub ThenMarked : (condition before after : Node) → Type 0
  ThenMarked c n m =
      InSystems q
      (λ S.
      m
      ≡ marked (under ds S) (typed types) (insts_after c (insts_in at.point))
      (known_in at.known.items) n)

  -- a goal whose parts are marked, and its own determinism
  pub record IsTold (before after : Scheduled) (told : Det) : Type 0 where
    pub goal :
        InSystems q
        (λ S.
        after
        ≡ marked_in (under ds S) (typed types) (insts_in at.point) (known_in at.known.items)
        before)
    pub det :
        InSystems q
        (λ S.
        told
        ≡ inferred
        (determined_in (under ds S) (typed types) (insts_in at.point) (known_in at.known.items)
        before))

-- procedures that may stand in the places of others
pub record AllStand (q : PlainProcs) (ps : List Proc) : Type 0 where
  pub preds : (k : ℕ) → k < length ps → (procedure_at ps k).pred ≡ get_or q.preds k 0
  pub each : (k : ℕ) → k < length ps → ProcedureFits q (procedure_at ps k)
