use Rattle.std.proofs.Common.{◌≡◌, ◌++◌, map, drop}
use Rattle.mc_program.specs.Programs.{variable}
use Rattle.mc_program.specs.PlainPrograms.{plain_expression}
use Rattle.mc_goals.proofs.query.arguments.Given as goal

abbrev pub invariant-loop-number : goal.invariant-loop-number
invariant-loop-number l =
    map plain_expression l.terms.items ++ map variable (drop l.number-index l.variables) ≡ map variable l.variables
