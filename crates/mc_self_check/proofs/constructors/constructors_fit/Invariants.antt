use Rattle.std.proofs.Common.{ℕ, ◌<◌}
use Rattle.mc_program.specs.PlainPrograms.{plain_program}
use Rattle.mc_self_check.specs.code.Constructors.{TypeFits}
use Rattle.mc_self_check.proofs.constructors.constructors_fit.Given as goal

abbrev pub invariant-loop-u : goal.invariant-loop-u
invariant-loop-u l =
    (u : ℕ) → u < l.u → TypeFits (plain_program l.program) u ((plain_program l.program).symbols_of u)
