use Rattle.std.proofs.Common.{◌↔◌, drop}
use Rattle.mc_analysis.specs.code.Tests.{EachModesFit}
use Rattle.mc_analysis.proofs.signatures.each_fits.Given as goal

abbrev pub invariant-loop-sig : goal.invariant-loop-sig
invariant-loop-sig l = EachModesFit l.count (drop l.sig-index l.sigs) ↔ EachModesFit l.count l.sigs
