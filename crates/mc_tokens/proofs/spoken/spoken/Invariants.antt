use Rattle.std.proofs.Common.{◌≡◌, ◌-◌, ◌++◌, length, drop}
use Rattle.mc_tokens.specs.Spots.{Plain}
use Rattle.mc_tokens.specs.Contents.{contents}
use Rattle.mc_tokens.proofs.spoken.spoken.Given as goal

abbrev pub invariant-loop-i : goal.invariant-loop-i
invariant-loop-i l = l.text ++ contents l.quote Plain 0 (drop l.i l.bytes) ≡ contents l.quote Plain 0 (drop 1 l.bytes)

abbrev pub decreases-loop-i : goal.decreases-loop-i
decreases-loop-i l = length l.bytes - l.i
