use Rattle.std.proofs.Common.{◌≡◌, ◌++◌, drop}
use Rattle.mc_mode_state.proofs.Freshening.{sides_of}
use Rattle.mc_mode_state.proofs.applied.on_side.Given as goal

abbrev pub invariant-loop-k : goal.invariant-loop-k
invariant-loop-k l =
    l.found.items ++ sides_of l.inputs (drop l.k l.mode.first) (drop l.k l.xs)
    ≡ sides_of l.inputs l.mode.first l.xs
