-- The mode that a call takes, by its place among the declared ones.
use Rattle.std.specs.Prelude.{◌≡◌, ℕ, ◌<◌, List, length, get_or, Option, Some, None, nat_lt, if◌then◌else◌}
use Rattle.mc_model.specs.Stream.{is_bound}
use Rattle.mc_model.specs.declared.inst.ModeDecl.{ModeDecl}
use Rattle.mc_accepted.specs.Arranged.{Declared, Point}
use Rattle.mc_accepted.specs.Ordered.{implied_places}
use Rattle.mc_mode_state.specs.Modes.{declared_mode}
use Rattle.mc_mode_state.specs.declared.picking.Pick.{Pick}

-- the better of a mode and of one that was found behind it
abbrev pub better_pick : (place : ℕ) → (implied : List ℕ) → Option Pick → Pick
better_pick k is None = record { place = k; implied = is }
better_pick k is (Some p) =
    if nat_lt (length p.implied) (length is) then p else record { place = k; implied = is }

-- the mode is one of these, and has as many arguments
pub record Takable (modes : List ModeDecl) (xs : List ℕ) (b : Point ℕ) (p : Pick) : Type 0 where
  pub there : p.place < length modes
  pub many : (m : ModeDecl) → length (get_or modes p.place m).first ≡ length xs
  pub implied :
      (m : ModeDecl)
      → p.implied
      ≡ implied_places 0 (declared_mode (get_or modes p.place m)).modes xs (λ x. is_bound (b x))

abbrev pub PickFits : List ModeDecl → List ℕ → Point ℕ → Option Pick → Type 0
PickFits modes xs b None = Unit {0}
PickFits modes xs b (Some p) = Takable modes xs b p

-- it is that mode, with its implied arguments
pub record IsPick (modes : List ModeDecl) (xs : List ℕ) (b : Point ℕ) (p : Pick) (d : Declared) : Type 0 where
  pub is : (m : ModeDecl) → declared_mode (get_or modes p.place m) ≡ d
  pub implied : p.implied ≡ implied_places 0 d.modes xs (λ x. is_bound (b x))

abbrev pub IsPicked : List ModeDecl → List ℕ → Point ℕ → Option Pick → Option Declared → Type 0
IsPicked modes xs b None None = Unit {0}
IsPicked modes xs b None (Some d) = ⊥
IsPicked modes xs b (Some p) None = ⊥
IsPicked modes xs b (Some p) (Some d) = IsPick modes xs b p d
