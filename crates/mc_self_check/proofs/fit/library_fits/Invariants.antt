use Rattle.std.proofs.Common.{ℕ, ◌<◌}
use Rattle.mc_program.specs.PlainPrograms.{plain_program}
use Rattle.mc_model.specs.Worlds.{library_of}
use Rattle.mc_self_check.specs.code.Predicates.{FitsLibrary, types_in}
use Rattle.mc_self_check.proofs.fit.library_fits.Given as goal

abbrev pub invariant-loop-number : goal.invariant-loop-number
invariant-loop-number l =
    (p : ℕ)
    → p < l.number
    → FitsLibrary l.program (library_of l.program) (types_in l.program (library_of l.program))
    ((plain_program l.program).preds p)
