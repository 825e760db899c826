use Rattle.std.proofs.Common.{◌≡◌, map, take}
use Rattle.mc_program.specs.PlainPrograms.{plain_type, plain_expression}
use Rattle.mc_core_program.specs.code.Rows.{argument_type}
use Rattle.mc_core_program.proofs.query.argument_types.Given as goal

abbrev pub invariant-loop-argument : goal.invariant-loop-argument
invariant-loop-argument l =
    map plain_type l.all.items
    ≡ map (argument_type (map plain_type l.types)) (map plain_expression (take l.argument-index l.head))
