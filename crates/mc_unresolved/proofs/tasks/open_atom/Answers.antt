use Rattle.mc_unresolved.proofs.Pendings.{put_both}
use Rattle.mc_unresolved.proofs.tasks.open_atom.Goals as goal

pub returns : goal.returns
returns c = put_both _ _ _ _ _ _ _ c.in_ok-put.ensures c.in_ok-put_terms.ensures
