use Rattle.laws_sources.proofs.Forms.{items_have_form}
use Rattle.laws_sources.proofs.laws.items_have_form.Goals as goal

pub returns : goal.returns
returns c = items_have_form
