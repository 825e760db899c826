use Rattle.std.proofs.Common.{refl}
use Rattle.std.specs.Int.{int_wrap}
use Rattle.laws_language.proofs.examples.throws.Goals as goal

pub returns : goal.returns
unfolding int_wrap
returns c = ((refl, refl), (λ e. cc))
