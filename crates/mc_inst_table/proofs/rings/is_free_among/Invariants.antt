use Rattle.std.proofs.Common.{◌≡◌, drop}
use Rattle.mc_inst_table.specs.code.Insides.{has_free_end}
use Rattle.mc_inst_table.proofs.rings.is_free_among.Given as goal

abbrev pub invariant-loop-end : goal.invariant-loop-end
invariant-loop-end l = has_free_end (drop l.end-index l.ends) ≡ has_free_end l.ends
