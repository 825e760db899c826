use Rattle.std.proofs.Common.{take}
use Rattle.mc_insts.specs.Defining.{plain_definitions}
use Rattle.mc_signatures.specs.code.Rows.{SigsPlaced}
use Rattle.mc_signatures.proofs.nodes.placed.Given as goal

abbrev pub invariant-loop-sig : goal.invariant-loop-sig
invariant-loop-sig l = SigsPlaced (plain_definitions l.defs) (take l.sig-index l.fn.sigs.items) l.all.items
