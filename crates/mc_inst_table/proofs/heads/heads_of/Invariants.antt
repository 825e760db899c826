use Rattle.std.proofs.Common.{◌≡◌, length}
use Rattle.mc_inst_table.specs.code.Ends.{bodies_of, AreHeads}
use Rattle.mc_inst_table.proofs.heads.heads_of.Given as goal

abbrev pub invariant-loop : goal.invariant-loop
invariant-loop l = (length l.heads ≡ length l.bodies) × AreHeads (bodies_of l.bodies) l.heads
