use Rattle.std.proofs.Common.{◌≡◌, map, take}
use Rattle.mc_program.specs.PlainPrograms.{plain_expression}
use Rattle.mc_core_program.specs.code.Rows.{argument_name}
use Rattle.mc_core_program.proofs.query.argument_names.Given as goal

abbrev pub invariant-loop-argument : goal.invariant-loop-argument
invariant-loop-argument l =
    l.all.items ≡ map (argument_name l.names) (map plain_expression (take l.argument-index l.head))
