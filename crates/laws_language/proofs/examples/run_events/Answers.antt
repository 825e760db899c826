use Rattle.std.proofs.Common.{refl}
use Rattle.laws_language.proofs.examples.run_events.Goals as goal

pub returns : goal.returns
returns c = (refl, refl, (λ e. cc))
