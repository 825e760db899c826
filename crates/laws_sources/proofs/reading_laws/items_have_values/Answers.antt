use Rattle.laws_sources.proofs.Typed.{items_have_values}
use Rattle.laws_sources.proofs.reading_laws.items_have_values.Goals as goal

pub returns : goal.returns
returns c = items_have_values
