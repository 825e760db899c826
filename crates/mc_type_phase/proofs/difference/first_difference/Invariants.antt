use Rattle.std.proofs.Common.{◌≡◌, drop}
use Rattle.mc_type_phase.specs.Typing.{first_difference}
use Rattle.mc_type_phase.proofs.difference.first_difference.Given as goal

abbrev pub invariant-loop-place : goal.invariant-loop-place
invariant-loop-place l =
    first_difference (drop l.place l.first) (drop l.place l.second)
    ≡ first_difference l.first l.second
