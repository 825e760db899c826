use Rattle.std.proofs.Common.{◌≡◌, map, take}
use Rattle.mc_signatures.specs.code.Rows.{reference}
use Rattle.mc_signatures.proofs.rows.choice.Given as goal

abbrev pub invariant-loop-number : goal.invariant-loop-number
invariant-loop-number l = l.args.items ≡ map reference (take l.number-index l.listed)
