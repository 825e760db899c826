use Rattle.std.proofs.Common.{◌≡◌, length}
use Rattle.mc_inst_table.specs.code.Ends.{bodies_of}
use Rattle.mc_inst_table.specs.code.Insides.{AreInside}
use Rattle.mc_inst_table.proofs.inside.find_all.Given as goal

abbrev pub invariant-loop-k : goal.invariant-loop-k
invariant-loop-k l = (length l.inside ≡ length l.bodies) × AreInside (bodies_of l.bodies) l.inside

abbrev pub invariant-loop-k-2 : goal.invariant-loop-k-2
invariant-loop-k-2 l = (length l.inside ≡ length l.bodies) × AreInside (bodies_of l.bodies) l.inside
