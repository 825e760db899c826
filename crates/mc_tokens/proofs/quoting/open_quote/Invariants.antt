use Rattle.std.proofs.Common.{◌-◌, length, Some}
use Rattle.mc_tokens.specs.code.Seen.{OpenQuote}
use Rattle.mc_tokens.proofs.quoting.open_quote.Given as goal

abbrev pub invariant-loop-i : goal.invariant-loop-i
invariant-loop-i l = OpenQuote l.quote l.text (Some l.i)

abbrev pub decreases-loop-i : goal.decreases-loop-i
decreases-loop-i l = length l.text - l.i
