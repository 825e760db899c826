use Rattle.std.proofs.Common.{◌≡◌, drop}
use Rattle.mc_model.specs.Lists.{is_in}
use Rattle.mc_inst_table.proofs.inside.is_in.Given as goal

abbrev pub invariant-loop-known : goal.invariant-loop-known
invariant-loop-known l = is_in l.number (drop l.known-index l.numbers) ≡ is_in l.number l.numbers
