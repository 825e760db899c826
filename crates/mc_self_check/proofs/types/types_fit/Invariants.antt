use Rattle.std.proofs.Common.{ℕ, ◌<◌}
use Rattle.mc_program.specs.PlainPrograms.{plain_program}
use Rattle.mc_procs.specs.Procedures.{parameters_in}
use Rattle.mc_self_check.specs.code.Symbols.{SymbolFits}
use Rattle.mc_self_check.proofs.types.types_fit.Given as goal

abbrev pub invariant-loop-symbol : goal.invariant-loop-symbol
invariant-loop-symbol l =
    (s : ℕ) → s < l.symbol → SymbolFits (plain_program l.program) (parameters_in l.program) s
