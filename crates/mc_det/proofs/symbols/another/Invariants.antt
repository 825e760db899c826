use Rattle.std.proofs.Common.{◌≡◌, false, take}
use Rattle.mc_det.specs.code.Symbols.{another}
use Rattle.mc_det.proofs.symbols.another.Given as goal

abbrev pub invariant-loop-other : goal.invariant-loop-other
invariant-loop-other l = another l.procs l.i l.symbol (take l.other-index l.symbols) ≡ false
