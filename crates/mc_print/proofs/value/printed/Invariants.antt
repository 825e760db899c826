use Rattle.std.proofs.Common.{◌≡◌, ◌++◌, length}
use Rattle.mc_program.specs.Values.{plain_value}
use Rattle.mc_program.specs.Printed.{printed, names_of}
use Rattle.mc_print.specs.code.Tasks.{pending, weight, AreNamed}
use Rattle.mc_print.proofs.value.printed.Given as goal

abbrev pub invariant-loop-task : goal.invariant-loop-task
invariant-loop-task l =
    (l.out ++ pending (names_of l.program) l.tasks.items ≡ printed (names_of l.program) (plain_value l.v))
    × AreNamed (length l.program.symbols) l.tasks.items

abbrev pub decreases-loop-task : goal.decreases-loop-task
decreases-loop-task l = weight l.tasks.items
