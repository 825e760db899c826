use Rattle.std.proofs.Common.{◌≡◌, ◌+◌, map, drop}
use Rattle.mc_model.specs.Worlds.{library_name, symbol_number, full_names}
use Rattle.mc_program.specs.PlainPrograms.{plain_name}
use Rattle.mc_program.specs.declared.program.Symbol.{Symbol}
use Rattle.mc_builtins.proofs.library.symbol_number.Given as goal

abbrev pub invariant-loop-symbol : goal.invariant-loop-symbol
invariant-loop-symbol l =
    (l.number ≡ l.symbol-index)
    × (symbol_number (library_name l.of_module l.name l.arity) (full_names l.program) ≡ l.number + symbol_number (library_name l.of_module l.name l.arity) (map (λ (s : Symbol). plain_name s.name) (drop l.symbol-index l.symbol-items)))
