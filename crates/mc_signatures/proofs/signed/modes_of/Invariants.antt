use Rattle.std.proofs.Common.{map, take}
use Rattle.mc_insts.specs.code.Lists.{Extends}
use Rattle.mc_names.specs.Linked.{Linked}
use Rattle.mc_signatures.specs.WrittenModes.{plain_written}
use Rattle.mc_signatures.specs.code.Keys.{terms}
use Rattle.mc_signatures.specs.code.Definitions.{AreDefinitions, GoesBetween}
use Rattle.mc_signatures.specs.code.Numbering.{NumberedModes}
use Rattle.mc_signatures.proofs.signed.modes_of.Given as goal

abbrev pub invariant-loop-mode : goal.invariant-loop-mode
invariant-loop-mode l = record {
  extends : Extends (terms l.initial.insts) (terms l.insts);
  modes :
      (linked : Linked) → AreDefinitions linked l.definitions
      → NumberedModes (GoesBetween linked (terms l.insts)) l.builtin l.initial.next (map plain_written (take l.mode-index l.written)) l.modes.items l.next;
}
