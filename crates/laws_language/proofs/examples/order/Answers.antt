use Rattle.std.proofs.Common.{refl}
use Rattle.laws_language.proofs.examples.order.Goals as goal

pub returns : goal.returns
returns c = ((refl, refl), (refl, refl), (refl, refl), (λ e. cc))
