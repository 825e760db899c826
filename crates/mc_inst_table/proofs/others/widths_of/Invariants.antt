use Rattle.std.proofs.Common.{◌≡◌, map, take}
use Rattle.mc_inst_table.proofs.others.widths_of.Given as goal

abbrev pub invariant-loop-named : goal.invariant-loop-named
invariant-loop-named l = l.widths.items ≡ map (λ n. n.name.arity) (take l.named-index l.names.insts)
