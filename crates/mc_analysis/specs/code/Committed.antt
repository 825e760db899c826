-- Committed determinisms, mode by mode.
use Rattle.std.specs.Prelude.{◌≡◌, List, [], ◌∷◌, Some, true}
use Rattle.mc_source.specs.declared.det.Det.{Det}
use Rattle.mc_source.specs.declared.det.Most.TheVariants as M
use Rattle.mc_model.specs.declared.inst.ModeDecl.{ModeDecl}
use Rattle.mc_model.specs.declared.inst.Sig.{Sig}

abbrev pub HasMany : ModeDecl → Type 0
HasMany m = (d : Det) → m.det ≡ Some d → d.committed ≡ true → d.most ≡ M.Many

abbrev pub ModesHaveMany : List ModeDecl → Type 0
ModesHaveMany [] = Unit {0}
ModesHaveMany (m ∷ ms) = HasMany m × ModesHaveMany ms

abbrev pub EachHasMany : List Sig → Type 0
EachHasMany [] = Unit {0}
EachHasMany (s ∷ ss) = ModesHaveMany s.modes × EachHasMany ss
