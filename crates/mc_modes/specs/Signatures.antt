-- Predicates' declared modes, as the order of goals asks for them. (Mercury Language Reference
-- Manual: Modes, a predicate's modes.)
use Rattle.std.specs.Prelude.{ℕ, List, [], map, get_or, None}
use Rattle.mc_model.specs.declared.inst.Sig.{Sig}
use Rattle.mc_model.specs.declared.inst.ModeDecl.{ModeDecl}
use Rattle.mc_accepted.specs.Arranged.{Declared}
use Rattle.mc_mode_state.specs.Modes.{declared_mode, ModesFit}

-- the modes of a predicate, by its number; one that has no signature has none
abbrev pub modes_at : List Sig → (predicate : ℕ) → List ModeDecl
modes_at sigs p = get_or (map (λ (s : Sig). s.modes) sigs) p []

-- what stands at a number that no mode has
abbrev pub no_mode : ModeDecl
no_mode =
    record { proc = 0; first = []; last = []; det = None; at = record { file = 0; line = 0 } }

-- a predicate's mode, by its number
abbrev pub mode_in : List Sig → (predicate mode : ℕ) → ModeDecl
mode_in sigs p k = get_or (modes_at sigs p) k no_mode

abbrev pub declared_in : List Sig → (predicate : ℕ) → List Declared
declared_in sigs p = map declared_mode (modes_at sigs p)

-- the insts of all modes are there
abbrev pub SigsFit : (insts : ℕ) → List Sig → Type 0
SigsFit n sigs = (p : ℕ) → ModesFit n (modes_at sigs p)
