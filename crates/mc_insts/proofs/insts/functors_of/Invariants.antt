use Rattle.std.proofs.Common.{take, map}
use Rattle.mc_insts.proofs.Numbered.{Numbered, name_of}
use Rattle.mc_insts.proofs.insts.functors_of.Given as goal

abbrev pub invariant-loop-symbol : goal.invariant-loop-symbol
invariant-loop-symbol l = Numbered l.functors l.symbols.items (map name_of (take l.symbol-index l.listed))
