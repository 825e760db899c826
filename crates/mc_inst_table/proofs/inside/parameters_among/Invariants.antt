use Rattle.std.proofs.Common.{◌≡◌, [], drop}
use Rattle.mc_inst_table.specs.code.Insides.{gathered}
use Rattle.mc_inst_table.proofs.inside.parameters_among.Given as goal

abbrev pub invariant-loop-end : goal.invariant-loop-end
invariant-loop-end l = gathered l.all.items (drop l.end-index l.ends) ≡ gathered [] l.ends
