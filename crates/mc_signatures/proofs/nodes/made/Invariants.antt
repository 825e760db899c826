use Rattle.mc_insts.specs.Defining.{plain_definitions}
use Rattle.mc_signatures.proofs.Placing.{MadeBefore}
use Rattle.mc_signatures.proofs.nodes.made.Given as goal

abbrev pub invariant-loop-def : goal.invariant-loop-def
invariant-loop-def l = MadeBefore (plain_definitions l.defs) l.def-index l.made.items l.next
