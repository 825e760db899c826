use Rattle.mc_term_data.proofs.Lasts.{last_of_row}
use Rattle.mc_term_data.proofs.last.last_of.Goals as goal

pub returns-in-len1-up : goal.returns-in-len1-up
returns-in-len1-up c =
    rw (← c.as_slice.ensures.items) (last_of_row _ _ c.in-len1-up.len_at_least c.last-item.is)
