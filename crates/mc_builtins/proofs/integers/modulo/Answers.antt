use Rattle.mc_builtins.proofs.Division.{modulo_gives}
use Rattle.mc_builtins.proofs.integers.modulo.Goals as goal

pub returns-else-b-eq0 : goal.returns-else-b-eq0
returns-else-b-eq0 c = modulo_gives _ _ _ c.ranges.a c.ranges.b c.floor_of.ensures c.if-b-eq0.false
