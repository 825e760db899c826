use Rattle.std.proofs.Common.{take}
use Rattle.mc_modes.specs.Numbering.{mode_ids}
use Rattle.mc_modes.specs.code.Steps.{SoFar}
use Rattle.mc_modes.proofs.ordering.order_goals.Given as goal

abbrev pub invariant-loop-id : goal.invariant-loop-id
invariant-loop-id l =
    SoFar l.sigs l.goals l.exported l.fn.procs l.procs (take l.id-index (mode_ids l.fn.procs.program l.sigs)) l.faults.items
