use Rattle.mc_names.specs.Linked.{Linked}
use Rattle.mc_type_table.specs.code.Kept.{AreEquivalences}
use Rattle.mc_type_table.proofs.Expanding.{Begins}
use Rattle.mc_type_table.proofs.expansion.Known.of.Given as goal

abbrev pub invariant-loop-number : goal.invariant-loop-number
invariant-loop-number l =
    (p : Linked) → AreEquivalences p l.equivalences
    → Begins p l.hidden l.number l.bodies.items l.done.items
