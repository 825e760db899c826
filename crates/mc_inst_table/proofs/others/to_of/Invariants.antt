use Rattle.std.proofs.Common.{◌≡◌, take}
use Rattle.mc_inst_table.specs.code.Others.{to_of}
use Rattle.mc_inst_table.proofs.others.to_of.Given as goal

abbrev pub invariant-loop-link : goal.invariant-loop-link
invariant-loop-link l = l.numbers.items ≡ to_of (take l.link-index l.links)
