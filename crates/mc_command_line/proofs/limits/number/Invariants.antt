use Rattle.std.proofs.Common.{◌≡◌, ◌<◌, ◌^◌, drop}
use Rattle.mc_command_line.specs.Words.{number_from}
use Rattle.mc_command_line.proofs.limits.number.Given as goal

abbrev pub invariant-loop-byte : goal.invariant-loop-byte
invariant-loop-byte l = record {
  small : l.number < 10 ^ l.byte-index;
  same : number_from l.number (drop l.byte-index l.text) ≡ number_from 0 l.text;
}
