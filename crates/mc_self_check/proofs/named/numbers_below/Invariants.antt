use Rattle.std.proofs.Common.{◌↔◌, drop}
use Rattle.mc_procs.specs.Named.{NumbersBelow}
use Rattle.mc_self_check.proofs.named.numbers_below.Given as goal

abbrev pub invariant-loop-number : goal.invariant-loop-number
invariant-loop-number l = NumbersBelow l.top (drop l.number-index l.numbers) ↔ NumbersBelow l.top l.numbers
