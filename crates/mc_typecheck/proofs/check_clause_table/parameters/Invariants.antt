use Rattle.std.proofs.Common.{◌≡◌, map}
use Rattle.mc_program.specs.PlainPrograms.{plain_type}
use Rattle.mc_typecheck.proofs.Entries.{parameter_list}
use Rattle.mc_typecheck.proofs.check_clause_table.parameters.Given as goal

abbrev pub invariant-loop-v : goal.invariant-loop-v
invariant-loop-v l = map plain_type l.all.items ≡ parameter_list 0 l.v
