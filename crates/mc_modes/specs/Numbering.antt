-- Declared modes in the order in which their procedures are numbered. (Mercury Language Reference
-- Manual: Modes, a predicate's modes; this project's certificates.)
use Rattle.std.specs.Prelude.{◌≡◌, ◌<◌, ℕ, List, [], length, map, Some, None, Option}
use Rattle.std.specs.List.{flat_map}
use Rattle.mc_program.specs.PlainPrograms.{plain_program}
use Rattle.mc_program.specs.declared.builtin.Builtin.{Builtin}
use Rattle.mc_program.specs.declared.program.Program.{Program}
use Rattle.mc_model.specs.Lists.{from}
use Rattle.mc_model.specs.declared.inst.Sig.{Sig}
use Rattle.mc_procs.specs.Procedures.{PlainProcs}
use Rattle.mc_modes.specs.Signatures.{modes_at, mode_in}
use Rattle.mc_modes.specs.declared.modes.ModeId.{ModeId}

abbrev pub ids_of : (predicate : ℕ) → (modes : List ℕ) → List ModeId
ids_of p ks = map (λ (k : ℕ). record { pred = p; mode = k }) ks

-- a predicate that is a builtin has no procedure: it is passed over
abbrev pub unless_builtin : Option Builtin → List ModeId → List ModeId
unless_builtin (Some op) ids = []
unless_builtin None ids = ids

abbrev pub ids_at : Program → List Sig → (predicate : ℕ) → List ModeId
ids_at P sigs p =
    unless_builtin ((plain_program P).preds p).builtin
    (ids_of p (from 0 (length (modes_at sigs p))))

-- a mode of a predicate that is no builtin
pub record IsMode (P : Program) (sigs : List Sig) (m : ModeId) : Type 0 where
  pub pred : m.pred < length P.preds
  pub no_builtin : ((plain_program P).preds m.pred).builtin ≡ None
  pub mode : m.mode < length (modes_at sigs m.pred)

-- predicates in order, and modes in order within one
abbrev pub mode_ids : Program → List Sig → List ModeId
mode_ids P sigs = flat_map (ids_at P sigs) (from 0 (length P.preds))

-- Procedures are numbered so: it is told beforehand of which predicate each is, and each mode tells
-- the number of its procedure.
pub record IsNumbered (q : PlainProcs) (sigs : List Sig) : Type 0 where
  pub preds : q.preds ≡ map (λ (m : ModeId). m.pred) (mode_ids q.program sigs)
  pub procs :
      map (λ (m : ModeId). (mode_in sigs m.pred m.mode).proc) (mode_ids q.program sigs)
      ≡ from 0 (length q.preds)
