-- The modes of builtins, by what arguments they have. (Mercury Language Reference Manual: the
-- library.)
use Rattle.std.specs.Prelude.{List, [], ◌∷◌}
use Rattle.mc_accepted.specs.Ordered.{Mode, in_mode, out_mode, di_mode, uo_mode}
use Rattle.mc_mode_state.specs.declared.builtin_modes.Shape.{Shape}
use Rattle.mc_mode_state.specs.declared.builtin_modes.Shape.TheVariants.{Test, Comparison, Unary, Binary, Write, Line, Read}

abbrev pub modes_by : Shape → List Mode
modes_by Test = in_mode ∷ []
modes_by Comparison = in_mode ∷ in_mode ∷ []
modes_by Unary = in_mode ∷ out_mode ∷ []
modes_by Binary = in_mode ∷ in_mode ∷ out_mode ∷ []
modes_by Write = in_mode ∷ di_mode ∷ uo_mode ∷ []
modes_by Line = di_mode ∷ uo_mode ∷ []
modes_by Read = out_mode ∷ di_mode ∷ uo_mode ∷ []
