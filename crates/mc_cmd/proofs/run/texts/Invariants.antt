use Rattle.std.proofs.Common.{◌≡◌, take, map}
use Rattle.mc_program.specs.Values.{plain_value}
use Rattle.mc_program.specs.Printed.{names_of, printed}
use Rattle.mc_cmd.proofs.run.texts.Given as goal

abbrev pub invariant-loop-value : goal.invariant-loop-value
invariant-loop-value l = l.texts ≡ map (λ v. printed (names_of l.program) (plain_value v)) (take l.value-index l.value-items)
