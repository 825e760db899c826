use Rattle.std.proofs.Common.{◌≡◌, false, take}
use Rattle.mc_det.specs.code.Symbols.{one_allowed}
use Rattle.mc_det.proofs.symbols.one_allowed.Given as goal

abbrev pub invariant-loop-symbol : goal.invariant-loop-symbol
invariant-loop-symbol l = one_allowed l.procs l.i (take l.symbol-index l.symbols) ≡ false
