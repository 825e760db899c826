use Rattle.std.proofs.Common.{map, take}
use Rattle.mc_insts.specs.code.Lists.{Extends}
use Rattle.mc_names.specs.Linked.{Linked}
use Rattle.mc_inst_table.specs.Plain.{plain_mode}
use Rattle.mc_signatures.specs.Signatures.{EachMeans}
use Rattle.mc_signatures.specs.code.Keys.{terms}
use Rattle.mc_signatures.specs.code.Definitions.{AreDefinitions, GoesBetween}
use Rattle.mc_signatures.proofs.signed.insts_of.Given as goal

abbrev pub invariant-loop-mode : goal.invariant-loop-mode
invariant-loop-mode l = record {
  extends : Extends (terms l.initial.insts) (terms l.insts);
  means :
      (linked : Linked) → AreDefinitions linked l.definitions
      → EachMeans (GoesBetween linked (terms l.insts)) (map plain_mode (take l.mode-index l.modes)) l.first.items l.last.items;
}
