use Rattle.std.proofs.Common.{◌≡◌, length}
use Rattle.mc_inst_table.specs.code.Ends.{bodies_of}
use Rattle.mc_inst_table.specs.code.Insides.{AreInside}
use Rattle.mc_inst_table.proofs.inside.insides_of.Given as goal

abbrev pub invariant-loop : goal.invariant-loop
invariant-loop l = (length l.inside ≡ length l.bodies) × AreInside (bodies_of l.bodies) l.inside
