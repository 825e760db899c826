use Rattle.mc_unresolved.proofs.Pendings.{put_three}
use Rattle.mc_unresolved.proofs.tasks.open_equation.Goals as goal

pub returns : goal.returns
returns c = put_three _ _ _ _ _ _ _ _ _ _ c.in_ok-put.ensures c.in_ok-put_term.ensures c.in_ok-put_term-2.ensures
