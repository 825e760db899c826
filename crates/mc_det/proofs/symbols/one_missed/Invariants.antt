use Rattle.std.proofs.Common.{◌≡◌, false, take}
use Rattle.mc_det.specs.code.Symbols.{one_missed}
use Rattle.mc_det.proofs.symbols.one_missed.Given as goal

abbrev pub invariant-loop-symbol : goal.invariant-loop-symbol
invariant-loop-symbol l = one_missed l.procs l.i l.arms (take l.symbol-index l.symbols) ≡ false
