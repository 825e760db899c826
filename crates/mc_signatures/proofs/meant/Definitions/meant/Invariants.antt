use Rattle.std.proofs.Common.{length}
use Rattle.mc_insts.specs.code.Lists.{Extends}
use Rattle.mc_names.specs.Linked.{Linked}
use Rattle.mc_inst_table.specs.Plain.{plain_mode}
use Rattle.mc_signatures.specs.code.Keys.{terms, AllBelow}
use Rattle.mc_signatures.specs.code.Definitions.{AreDefinitions, Follows}
use Rattle.mc_signatures.proofs.meant.Definitions.meant.Given as goal

-- the mode at hand stands over insts that are there, and the first goes where it does
abbrev pub invariant-loop : goal.invariant-loop
invariant-loop l = record {
  extends : Extends (terms l.initial.insts) (terms l.insts);
  below : AllBelow (length (terms l.insts)) l.given.items;
  follows :
      (linked : Linked) → AreDefinitions linked l.self
      → Follows linked (terms l.insts) l.given.items (plain_mode l.written) (plain_mode l.mode);
}
