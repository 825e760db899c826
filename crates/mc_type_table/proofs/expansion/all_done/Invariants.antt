use Rattle.std.proofs.Common.{◌≡◌, drop}
use Rattle.mc_type_table.specs.code.Kept.{all_done}
use Rattle.mc_type_table.proofs.expansion.all_done.Given as goal

abbrev pub invariant-loop-number : goal.invariant-loop-number
invariant-loop-number l = all_done l.done (drop l.number-index l.numbers) ≡ all_done l.done l.numbers
