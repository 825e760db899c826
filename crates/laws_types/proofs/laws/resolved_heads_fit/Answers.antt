use Rattle.laws_types.proofs.ResolvedHeads.{resolved_heads_fit}
use Rattle.laws_types.proofs.laws.resolved_heads_fit.Goals as goal

pub returns : goal.returns
returns c = resolved_heads_fit
