use Rattle.std.proofs.Common.{take}
use Rattle.mc_insts.specs.Defining.{plain_definitions}
use Rattle.mc_signatures.specs.code.Rows.{AreNumbered}
use Rattle.mc_signatures.proofs.nodes.nodes.Given as goal

abbrev pub invariant-loop-number : goal.invariant-loop-number
invariant-loop-number l = AreNumbered (plain_definitions l.defs) (take l.number-index l.numbers) l.nodes.items
