use Rattle.mc_inst_table.specs.code.Others.{NoneMarked}
use Rattle.mc_inst_table.proofs.others.none_marked.Given as goal

abbrev pub invariant-loop-k : goal.invariant-loop-k
invariant-loop-k l = NoneMarked l.marks.items
