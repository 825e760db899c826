use Rattle.std.proofs.Common.{◌≡◌, length}
use Rattle.mc_inst_table.specs.code.Ends.{bodies_of, AreHeads}
use Rattle.mc_inst_table.proofs.heads.find_backwards.Given as goal

abbrev pub invariant-loop-k : goal.invariant-loop-k
invariant-loop-k l = (length l.heads ≡ length l.bodies) × AreHeads (bodies_of l.bodies) l.heads
