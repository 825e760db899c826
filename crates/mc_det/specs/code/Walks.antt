-- What a walk over a goal puts behind the steps that it has.
use Rattle.std.specs.Prelude.{◌≡◌, ℕ, suc, zero, ◌<◌, List, [], ◌∷◌, ◌++◌, length, map, get_or, if◌then◌else◌}
use Rattle.mc_program.specs.Values.{Val}
use Rattle.mc_program.specs.Programs.{TypeTerm, variable_type}
use Rattle.mc_program.specs.PlainPrograms.{plain_type}
use Rattle.mc_program.specs.declared.builtin.Builtin.{Builtin}
use Rattle.mc_program.specs.declared.ty.Ty.{Ty}
use Rattle.mc_model.specs.Outcomes.{Outcome}
use Rattle.mc_model.specs.Good.{System}
use Rattle.mc_model.specs.Scheduled.{Arms}
use Rattle.mc_accepted.specs.Ordered.{Insts}
use Rattle.mc_accepted.specs.Determined.{Known, allowed_in, misses}
use Rattle.mc_insts.specs.Graphs.{count_of}
use Rattle.mc_procs.specs.Named.{Bounds}
use Rattle.mc_procs.specs.Procedures.{PlainProcs, as_system}
use Rattle.mc_det_constraints.specs.declared.constraint.Step.{Step}
use Rattle.mc_det_constraints.specs.declared.constraint.Step.TheVariants as T
use Rattle.mc_det.specs.declared.walk.Walk.{Walk}
use Rattle.mc_det.specs.code.Facts.{known_in}
use Rattle.mc_det.specs.code.Points.{insts_in}

-- the types of variables
abbrev pub typed : List Ty → ℕ → TypeTerm
typed types x = get_or (map plain_type types) x (variable_type x)

-- the numbers that a body with so many variables may hold
abbrev pub bounds_in : PlainProcs → (variables : ℕ) → Bounds
bounds_in q n =
    record {
      variables = n;
      symbols = length q.program.symbols;
      procedures = length q.preds;
      insts = count_of q.insts;
    }

-- a point has an inst for each type, and all insts are there
pub record Ready (q : PlainProcs) (types : List Ty) (point : List ℕ) : Type 0 where
  pub many : length point ≡ length types
  pub below : (x : ℕ) → insts_in point x < count_of q.insts

-- an element of a list
abbrev pub IsAmong : {A : Type 0} → List A → A → Type 0
IsAmong xs x = (k : ℕ) × (k < length xs) × (x ≡ get_or xs k x)

-- the step more of a switch that misses a symbol
abbrev pub missed : System → (ℕ → TypeTerm) → Insts → ℕ → Arms → List Step
missed S type b x arms =
    if misses S type (allowed_in S type (type x) (b x)) arms then T.Misses ∷ [] else []

-- so many steps
abbrev pub times : ℕ → Step → List Step
times zero s = []
times (suc n) s = s ∷ times n s

-- the same, whatever builtins do
abbrev pub InSystems : PlainProcs → (System → Type 0) → Type 0
InSystems q P = (outcome : Builtin → List Val → Outcome) → P (as_system outcome q)

-- steps are put at the end; the point and what is known are as before
pub record PutSteps (before after : Walk) (steps : List Step) : Type 0 where
  pub point : after.point ≡ before.point
  pub known : after.known.items ≡ before.known.items
  pub put : after.steps.items ≡ before.steps.items ++ steps

-- the same of steps that are told by the point and what is known there
pub record Puts
    (q : PlainProcs) (before after : Walk) (more : System → Insts → Known → List Step)
    : Type 0 where
  pub point : after.point ≡ before.point
  pub known : after.known.items ≡ before.known.items
  pub steps :
      InSystems q
      (λ S.
      after.steps.items
      ≡ before.steps.items ++ more S (insts_in before.point) (known_in before.known.items))
