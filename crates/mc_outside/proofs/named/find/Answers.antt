use Rattle.std.proofs.Common.{arith}
use Rattle.std.proofs.lemmas.Grind.{common_steps}
use Rattle.std.specs.FinMap.{gets}
use Rattle.mc_outside.proofs.Lookups.{by_name-more}
use Rattle.mc_outside.proofs.named.find.Goals as goal

pub returns-then-eq : goal.returns-then-eq
returns-then-eq c = grind (arith, common_steps, by_name-more)

pub loop-known-preserved : goal.loop-known-preserved
loop-known-preserved c = grind (arith, common_steps, by_name-more)

pub returns : goal.returns
returns c = let i = c.loop-known.invariant in grind (arith, common_steps, gets)
