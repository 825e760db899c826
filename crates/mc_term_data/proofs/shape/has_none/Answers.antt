use Rattle.mc_term_data.proofs.Shapes.{has_none_where}
use Rattle.mc_term_data.proofs.shape.has_none.Goals as goal

pub returns : goal.returns
returns c = has_none_where _ _ c.is_empty.ensures
