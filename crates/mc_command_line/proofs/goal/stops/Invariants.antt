use Rattle.std.proofs.Common.{◌≡◌, drop, false}
use Rattle.mc_command_line.specs.Words.{stops_after}
use Rattle.mc_command_line.proofs.goal.stops.Given as goal

abbrev pub invariant-loop-byte : goal.invariant-loop-byte
invariant-loop-byte l = stops_after l.stops (drop l.byte-index l.goal) ≡ stops_after false l.goal
