use Rattle.mc_builtins.proofs.Division.{quotient_gives}
use Rattle.mc_builtins.proofs.integers.quotient.Goals as goal

pub returns-else-b-eq0 : goal.returns-else-b-eq0
returns-else-b-eq0 c = quotient_gives _ _ _ c.ranges.a c.ranges.b c.wrapping_div.ensures c.if-b-eq0.false
