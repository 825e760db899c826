use Rattle.std.proofs.Common.{◌≡◌, drop}
use Rattle.mc_program.specs.PlainPrograms.{plain_name}
use Rattle.mc_declarations.specs.Declarations.{builtins, builtin_among}
use Rattle.mc_declarations.proofs.builtins.builtin_of.Given as goal

abbrev pub invariant-loop-builtin : goal.invariant-loop-builtin
invariant-loop-builtin l =
    builtin_among (drop l.builtin-index l.builtin-items) (plain_name l.name) l.is_func
    ≡ builtin_among builtins (plain_name l.name) l.is_func
