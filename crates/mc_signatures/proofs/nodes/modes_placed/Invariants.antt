use Rattle.std.proofs.Common.{take}
use Rattle.mc_insts.specs.Defining.{plain_definitions}
use Rattle.mc_signatures.specs.code.Rows.{ModesPlaced}
use Rattle.mc_signatures.proofs.nodes.modes_placed.Given as goal

abbrev pub invariant-loop-mode : goal.invariant-loop-mode
invariant-loop-mode l = ModesPlaced (plain_definitions l.defs) (take l.mode-index l.modes) l.all.items
