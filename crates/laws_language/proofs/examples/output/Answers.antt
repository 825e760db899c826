use Rattle.std.proofs.Common.{refl}
use Rattle.std.specs.Int.{int_wrap}
use Rattle.std.specs.Fmt.{digits}
use Rattle.laws_language.proofs.examples.output.Goals as goal

pub returns : goal.returns
unfolding int_wrap digits
returns c = ((refl, refl), (refl, refl), (refl, refl), refl, refl, refl, (λ e. cc))
