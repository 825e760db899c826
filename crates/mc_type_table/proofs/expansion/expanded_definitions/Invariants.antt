use Rattle.mc_names.specs.Linked.{Linked}
use Rattle.mc_type_table.specs.code.Kept.{AreEquivalences, IsKnown}
use Rattle.mc_type_table.proofs.expansion.expanded_definitions.Given as goal

abbrev pub invariant-loop-number : goal.invariant-loop-number
invariant-loop-number l =
    (p : Linked) → AreEquivalences p l.equivalences → IsKnown p l.hidden l.number-index l.known
