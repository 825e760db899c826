use Rattle.std.proofs.Common.{take}
use Rattle.mc_inst_table.specs.code.Others.{AreMarked}
use Rattle.mc_inst_table.proofs.others.marked.Given as goal

abbrev pub invariant-loop-number : goal.invariant-loop-number
invariant-loop-number l = AreMarked l.marks (take l.number-index l.numbers)
