use Rattle.std.proofs.Common.{take}
use Rattle.mc_modes.specs.Outcomes.{ListsBehind}
use Rattle.mc_modes.proofs.ordering.list_faults.Given as goal

abbrev pub invariant-loop-id : goal.invariant-loop-id
invariant-loop-id l =
    ListsBehind l.sigs l.goals l.fn.procs l.procs (take l.id-index l.ids) l.fn.faults.items l.faults.items
