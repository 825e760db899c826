use Rattle.std.proofs.Common.{◌≡◌, map, take}
use Rattle.mc_modes.specs.Numbering.{mode_ids}
use Rattle.mc_modes.specs.declared.modes.ModeId.{ModeId}
use Rattle.mc_analysis.proofs.rules.preds_of_modes.Given as goal

abbrev pub invariant-loop-id : goal.invariant-loop-id
invariant-loop-id l = l.preds.items ≡ map (λ (m : ModeId). m.pred) (take l.id-index (mode_ids l.program l.sigs))
