use Rattle.std.proofs.Common.{◌↔◌, drop}
use Rattle.mc_procs.specs.Named.{NumbersBelow}
use Rattle.mc_self_check.proofs.named.places_below.Given as goal

abbrev pub invariant-loop-place : goal.invariant-loop-place
invariant-loop-place l = NumbersBelow l.count (drop l.place-index l.places) ↔ NumbersBelow l.count l.places
