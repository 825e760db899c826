use Rattle.std.proofs.Common.{◌≡◌, map, take}
use Rattle.mc_inst_table.specs.code.Others.{to_of}
use Rattle.mc_inst_table.proofs.others.steps_of.Given as goal

abbrev pub invariant-loop-row : goal.invariant-loop-row
invariant-loop-row l = l.rows.items ≡ map to_of (take l.row-index l.links)
