use Rattle.std.proofs.Common.{◌↔◌, drop}
use Rattle.mc_analysis.specs.code.Committed.{EachHasMany}
use Rattle.mc_analysis.proofs.determinisms.each_has_many.Given as goal

abbrev pub invariant-loop-sig : goal.invariant-loop-sig
invariant-loop-sig l = EachHasMany (drop l.sig-index l.sigs) ↔ EachHasMany l.sigs
