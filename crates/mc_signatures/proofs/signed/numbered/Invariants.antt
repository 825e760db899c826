use Rattle.std.proofs.Common.{map, take}
use Rattle.mc_insts.specs.code.Lists.{Extends}
use Rattle.mc_names.specs.Linked.{Linked}
use Rattle.mc_signatures.specs.WrittenModes.{plain_written}
use Rattle.mc_signatures.specs.Signatures.{builtin_of}
use Rattle.mc_signatures.specs.code.Keys.{terms}
use Rattle.mc_signatures.specs.code.Definitions.{AreDefinitions, GoesBetween}
use Rattle.mc_signatures.specs.code.Numbering.{AreBefore}
use Rattle.mc_signatures.proofs.signed.numbered.Given as goal

abbrev pub invariant-loop-pred : goal.invariant-loop-pred
invariant-loop-pred l = record {
  extends : Extends (terms l.initial.insts) (terms l.insts);
  sigs :
      (linked : Linked) → AreDefinitions linked l.definitions
      → AreBefore (GoesBetween linked (terms l.insts)) (builtin_of l.preds) (map (map plain_written) (take l.pred l.modes)) l.sigs.items l.next;
}
