use Rattle.std.proofs.Common.{refl}
use Rattle.std.specs.Fmt.{digits}
use lib.Utf8.{encode}
use Rattle.laws_print.proofs.examples.Goals as goal

pub returns-clause-open_list : goal.returns-clause-open_list
unfolding digits
returns-clause-open_list c = (refl, refl, refl)

pub returns-clause-quotes : goal.returns-clause-quotes
unfolding encode
returns-clause-quotes c = (refl, refl, refl)

pub returns-clause-no_others : goal.returns-clause-no_others
returns-clause-no_others c = ((λ e. cc), (λ e. cc))
