use Rattle.std.proofs.Common.{◌≡◌}
use Rattle.std.specs.List.{flat_map}
use Rattle.mc_model.specs.Lists.{from}
use Rattle.mc_modes.specs.Numbering.{ids_at}
use Rattle.mc_modes.proofs.modes.mode_ids.Given as goal

abbrev pub invariant-loop-pred : goal.invariant-loop-pred
invariant-loop-pred l = l.ids.items ≡ flat_map (ids_at l.program l.sigs) (from 0 l.pred)
