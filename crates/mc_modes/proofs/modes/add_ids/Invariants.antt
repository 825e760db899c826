use Rattle.std.proofs.Common.{◌≡◌, ◌++◌}
use Rattle.mc_model.specs.Lists.{from}
use Rattle.mc_modes.specs.Numbering.{ids_of}
use Rattle.mc_modes.proofs.modes.add_ids.Given as goal

abbrev pub invariant-loop-mode : goal.invariant-loop-mode
invariant-loop-mode l = l.ids.items ≡ l.initial.ids.items ++ ids_of l.pred (from 0 l.mode)
