use Rattle.std.proofs.Common.{◌≡◌, drop}
use Rattle.mc_inst_table.specs.code.Insides.{all_in}
use Rattle.mc_inst_table.proofs.inside.are_in.Given as goal

abbrev pub invariant-loop-number : goal.invariant-loop-number
invariant-loop-number l = all_in l.others (drop l.number-index l.numbers) ≡ all_in l.others l.numbers
