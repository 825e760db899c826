-- The real builtins do io as a system that fits needs. (Mercury Language Reference Manual: the
-- library's io.)
use Rattle.std.specs.Prelude.{ℕ, List}
use Rattle.mc_program.specs.Programs.{Source}
use Rattle.mc_model.specs.Builtins.{Library, outcome}
use Rattle.mc_accepted.specs.BuiltinTypes.{Library_types, HasBuiltins}
use Rattle.mc_accepted.specs.IoFits.{FitsIo}

abbrev pub BuiltinsDoIo : Type 0
BuiltinsDoIo =
    (P : Source) (L : Library) (K : Library_types) (input : List ℕ)
    → HasBuiltins P K → FitsIo (record { source = P; outcome = outcome L input }) K
