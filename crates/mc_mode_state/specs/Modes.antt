-- Declared modes, as the order of goals asks for them. (Mercury Language Reference Manual: Modes;
-- Determinism.)
use Rattle.std.specs.Prelude.{◌≡◌, ℕ, Bool, false, List, [], ◌∷◌, length, Option, Some, None}
use Rattle.mc_source.specs.Determinism.{is_zero}
use Rattle.mc_source.specs.declared.det.Det.{Det}
use Rattle.mc_model.specs.declared.inst.ModeDecl.{ModeDecl}
use Rattle.mc_accepted.specs.Ordered.{zipped}
use Rattle.mc_accepted.specs.Arranged.{Declared}
use Rattle.mc_procs.specs.Named.{NumbersBelow}

-- a call never comes back where that is declared
abbrev pub never_answers : Option Det → Bool
never_answers None = false
never_answers (Some d) = is_zero d.most

abbrev pub declared_mode : ModeDecl → Declared
declared_mode m =
    record { proc = m.proc; modes = zipped m.first m.last; never = never_answers m.det }

-- a mode has an initial and a final inst for each argument, which are there
pub record ModeFits (insts : ℕ) (m : ModeDecl) : Type 0 where
  pub as_many : length m.first ≡ length m.last
  pub first : NumbersBelow insts m.first
  pub last : NumbersBelow insts m.last

abbrev pub ModesFit : (insts : ℕ) → List ModeDecl → Type 0
ModesFit n [] = Unit {0}
ModesFit n (m ∷ ms) = ModeFits n m × ModesFit n ms
